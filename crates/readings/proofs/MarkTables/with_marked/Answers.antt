-- `readings::MarkTables::with_marked` meets its contract: the marks passed have set their facts. Assumes nothing.
use mathlib.Core.Path.{◌∙◌}
use Rattle.readings.proofs.Loops.{with_none, with_more}
use Rattle.readings.proofs.MarkTables.with_marked.Goals as goal

pub loop-i-init : goal.loop-i-init
loop-i-init c = with_none _ _

pub loop-i-preserved : goal.loop-i-preserved
loop-i-preserved c = with_more _ _ c.loop-i.w _ c.loop-i.i c.loop-i.invariant (λ p. c.with-w.ensures p ∙ rw (c.from.ensures, c.at.ensures))
