use Rattle.cells.proofs.Changes.{then}
use Rattle.prune.proofs.tighten.Goals as goal

pub returns-then-rests : goal.returns-then-rests
returns-then-rests c = then c.loop.invariant c.rests.ensures

pub loop-preserved : goal.loop-preserved
loop-preserved c = then c.loop.invariant c.rests.ensures
