use Rattle.bounds.proofs.Laws.{kept_refl, served_to, ends_within, halves_up, halves_down}
use native.Mathlib.Omega.{arith}
use borrow.Author.Tests.{not-true, not-false}
use Rattle.bounds.proofs.halve.Goals as goal

pub returns-then-not-any_at : goal.returns-then-not-any_at
returns-then-not-any_at c = halves_up c.any_at.ensures (not-true _ c.if-not-any_at.true-raw) (omega arith) (omega arith) c.requires.1

pub overflow_cast-result : goal.overflow_cast-result
overflow_cast-result c = omega (arith, ends_within c.any_at.ensures (not-false _ c.if-not-any_at.false-raw) c.last_end-end.ensures (served_to (kept_refl _) c.requires.0 (omega arith)), c.requires.0.short)

pub returns : goal.returns
returns c = halves_down c.any_at.ensures (not-false _ c.if-not-any_at.false-raw) c.last_end-end.ensures (served_to (kept_refl _) c.requires.0 (omega arith)) (omega arith) c.requires.1.none
