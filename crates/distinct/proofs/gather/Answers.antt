use Rattle.distinct.proofs.Laws.{band_none}
use Rattle.distinct.proofs.gather.Goals as goal

pub loop-j-init : goal.loop-j-init
loop-j-init c P e = c.join-b.ensures P e band_none

pub loop-j-preserved : goal.loop-j-preserved
loop-j-preserved c P e = c.join-b-in-loop-j.ensures P e (c.loop-j.invariant P e)
