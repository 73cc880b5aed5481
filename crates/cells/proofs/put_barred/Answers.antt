use Rattle.cells.proofs.Changes.{puts_barred}
use Rattle.cells.proofs.put_barred.Goals as goal

pub returns : goal.returns
returns c = puts_barred _ c.put_bit.ensures
