use Rattle.cells.proofs.Changes.{mute, says_then}
use Rattle.outset.proofs.First.{blank_fits}
use native.Mathlib.Omega.{arith}
use Rattle.outset.proofs.root.Goals as goal

pub loop-j-init : goal.loop-j-init
loop-j-init c = (omega arith, mute)

pub loop-j-preserved : goal.loop-j-preserved
loop-j-preserved c = (omega arith, says_then c.loop-j.invariant.1 c.root_job.ensures)

pub returns : goal.returns
returns c P e Q g = c.loop-j.invariant.1.fits P Q (blank_fits _ e c.blank-s.ensures g) (e, g)
