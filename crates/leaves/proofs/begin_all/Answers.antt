use Rattle.leaves.proofs.Laws.{begun_next}
use Rattle.leaves.proofs.begin_all.Goals as goal

pub loop-j-preserved : goal.loop-j-preserved
loop-j-preserved c = begun_next c.loop-j.invariant c.begin.ensures
