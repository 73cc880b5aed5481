use Rattle.cells.proofs.Changes.{follows}
use Rattle.crowds.proofs.Laws.{offered_more}
use Rattle.crowds.proofs.some_full.Goals as goal

pub returns-then-tells : goal.returns-then-tells
returns-then-tells c = follows c.loop-i.invariant offered_more c.tells.ensures

pub loop-i-preserved : goal.loop-i-preserved
loop-i-preserved c = follows c.loop-i.invariant offered_more c.tells.ensures
