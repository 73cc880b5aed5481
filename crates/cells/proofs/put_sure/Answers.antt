use Rattle.cells.proofs.Changes.{puts_sure}
use Rattle.cells.proofs.put_sure.Goals as goal

pub returns : goal.returns
returns c = puts_sure _ _ c.put_bit.ensures
