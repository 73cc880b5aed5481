use Rattle.bounds.proofs.Laws.{kept_trans, kept_back, served_to, held_to}
use native.Mathlib.Omega.{arith}
use Rattle.bounds.proofs.narrow.Goals as goal

pub halve-r-requires : goal.halve-r-requires
halve-r-requires c = (served_to c.loop-low.invariant.0 c.requires.0 c.loop-low.invariant.2, held_to c.loop-low.invariant.0 c.loop-low.invariant.1, c.loop-low-test.true)

pub loop-low-preserved : goal.loop-low-preserved
loop-low-preserved c = let d = c.halve-r.ensures in let i = c.loop-low.invariant in (kept_trans i.0 d.kept, held_to (kept_back i.0) d.held, omega (arith, d.top, i.2))
