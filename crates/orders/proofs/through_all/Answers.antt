use Rattle.cells.proofs.Changes.{then}
use Rattle.orders.proofs.through_all.Goals as goal

pub loop-m-preserved : goal.loop-m-preserved
loop-m-preserved c = then c.loop-m.invariant c.through.ensures
