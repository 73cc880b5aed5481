use Rattle.lines.proofs.Laws.{lays_then}
use borrow.Author.Rules.{rules}
use Rattle.lines.proofs.put_then.Goals as goal

pub returns : goal.returns
returns c = lays_then (search rules) c.put_number-next.ensures c.put_letter.ensures
