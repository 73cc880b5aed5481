use Rattle.planner.proofs.Laws.{first_done}
use native.Mathlib.Omega.{arith}
use Rattle.planner.proofs.first.Goals as goal

pub loop-k-init : goal.loop-k-init
loop-k-init c = c.requires.0

pub returns : goal.returns
returns c = first_done (omega (arith, c.count-n.ensures)) c.loop-k.invariant
