use Rattle.bounds.proofs.Laws.{kept_trans, kept_back, none_to}
use native.Mathlib.Omega.{arith}
use Rattle.bounds.proofs.low_end.Goals as goal

pub loop-low-preserved : goal.loop-low-preserved
loop-low-preserved c = let d = c.probe-r.ensures in let i = c.loop-low.invariant in (kept_trans i.0 d.kept, none_to (kept_back i.0) (d.none (none_to i.0 i.1)), d.within, omega (arith, d.top, i.3))
