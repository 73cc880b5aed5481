use Rattle.cells.proofs.Changes.{follows}
use Rattle.crowds.proofs.Laws.{heaped_more}
use Rattle.crowds.proofs.beside_all.Goals as goal

pub loop-k-preserved : goal.loop-k-preserved
loop-k-preserved c = follows c.loop-k.invariant heaped_more c.beside.ensures
