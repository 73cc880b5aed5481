use Rattle.planner.proofs.Laws.{low_next}
use Rattle.planner.proofs.lower.Goals as goal

pub loop-preserved : goal.loop-preserved
loop-preserved c = low_next c.loop.invariant c.try_sooner.ensures c.loop-test.true
