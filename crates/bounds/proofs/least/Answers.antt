use Rattle.bounds.proofs.Laws.{kept_trans, kept_back, served_to, none_to, held_to}
use native.Mathlib.Omega.{arith}
use Rattle.bounds.proofs.least.Goals as goal

pub rise-requires : goal.rise-requires
rise-requires c = let d = c.low_end-low.ensures in (served_to d.kept c.requires (omega arith), d.within, none_to d.kept d.none)

pub returns-in-None : goal.returns-in-None
returns-in-None c = let d = c.in-None.ensures in let k = c.low_end-low.ensures.kept in record { held = none_to (kept_back k) d.held; kept = kept_trans k d.kept }

pub narrow-requires : goal.narrow-requires
narrow-requires c = let d = c.in-Some.ensures in (served_to (kept_trans c.low_end-low.ensures.kept d.kept) c.requires d.held.1, held_to d.kept d.held.0)

pub returns-in-Some : goal.returns-in-Some
returns-in-Some c = let d = c.in-Some.ensures in let k = kept_trans c.low_end-low.ensures.kept d.kept in let n = c.narrow.ensures in record { held = (held_to (kept_back k) n.held, omega (arith, n.within, d.held.1)); kept = kept_trans k n.kept }
