use Rattle.cells.proofs.Changes.{then}
use Rattle.orders.proofs.pairs.Goals as goal

pub loop-b-preserved : goal.loop-b-preserved
loop-b-preserved c = then c.loop-b.invariant c.pairs_at.ensures
