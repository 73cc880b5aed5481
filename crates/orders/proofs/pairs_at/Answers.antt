use Rattle.cells.proofs.Changes.{then}
use Rattle.orders.proofs.pairs_at.Goals as goal

pub loop-a-preserved : goal.loop-a-preserved
loop-a-preserved c = then c.loop-a.invariant c.pair_at.ensures
