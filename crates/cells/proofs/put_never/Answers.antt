use Rattle.cells.proofs.Changes.{puts_never}
use Rattle.cells.proofs.put_never.Goals as goal

pub returns : goal.returns
returns c = puts_never _ _ c.put_bit.ensures
