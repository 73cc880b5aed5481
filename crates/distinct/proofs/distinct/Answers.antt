use Rattle.cells.proofs.Changes.{then}
use Rattle.distinct.proofs.distinct.Goals as goal

pub loop-p-preserved : goal.loop-p-preserved
loop-p-preserved c = then c.loop-p.invariant c.claims.ensures
