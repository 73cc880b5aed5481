use Rattle.cells.proofs.Changes.{puts_hi}
use borrow.Author.Rules.{rules}
use Rattle.cells.proofs.put_hi.Goals as goal

pub returns : goal.returns
returns c = puts_hi _ _ (search rules) c.put.ensures
