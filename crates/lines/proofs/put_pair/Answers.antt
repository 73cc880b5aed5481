use Rattle.lines.proofs.Laws.{lays_then}
use borrow.Author.Rules.{rules}
use Rattle.lines.proofs.put_pair.Goals as goal

pub returns : goal.returns
returns c = lays_then (search rules) (rw c.from.ensures at c.put_number-first.ensures) (lays_then (search rules) c.put_word-word.ensures (rw c.from-2.ensures at c.put_then.ensures))
