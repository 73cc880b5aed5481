use Rattle.cells.proofs.Changes.{puts_inside}
use Rattle.cells.proofs.put_inside.Goals as goal

pub returns : goal.returns
returns c = puts_inside _ c.put_bit.ensures
