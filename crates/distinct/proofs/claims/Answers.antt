use Rattle.cells.proofs.Changes.{then}
use Rattle.distinct.proofs.claims.Goals as goal

pub loop-i-preserved : goal.loop-i-preserved
loop-i-preserved c = then c.loop-i.invariant c.claim.ensures
