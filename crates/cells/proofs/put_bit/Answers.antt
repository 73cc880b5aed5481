use borrow.Author.Rules.{rules}
use Rattle.cells.proofs.put_bit.Goals as goal

pub returns : goal.returns
returns c = record { is = rw c.with.ensures; room = search rules }
