use Rattle.cells.proofs.Changes.{puts_lo}
use borrow.Author.Rules.{rules}
use Rattle.cells.proofs.put_lo.Goals as goal

pub returns : goal.returns
returns c = puts_lo _ _ (search rules) c.put.ensures
