use Rattle.lines.proofs.Laws.{lays_then}
use borrow.Author.Rules.{rules}
use Rattle.lines.proofs.put_job.Goals as goal

pub returns : goal.returns
returns c = lays_then (search rules) c.put_then-first.ensures (lays_then (search rules) c.put_then-second.ensures c.put_then.ensures)
