-- `readings::MarkTables::without_missed` meets its contract: the marks passed have cleared the facts that they miss. Assumes nothing.
use mathlib.Core.Path.{◌∙◌}
use Rattle.readings.proofs.Loops.{without_none, without_more}
use Rattle.readings.proofs.MarkTables.without_missed.Goals as goal

pub loop-i-init : goal.loop-i-init
loop-i-init c = without_none _ _

pub loop-i-preserved : goal.loop-i-preserved
loop-i-preserved c = without_more _ _ c.loop-i.left _ c.loop-i.i c.loop-i.invariant (λ p. c.clear_if_missed-left.ensures p ∙ rw c.at.ensures)
