use Rattle.cells.proofs.Changes.{puts_sures}
use Rattle.cells.proofs.put_sures.Goals as goal

pub returns : goal.returns
returns c = puts_sures _ _ c.put_bits.ensures
