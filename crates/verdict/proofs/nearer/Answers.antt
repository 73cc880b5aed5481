use native.Mathlib.Omega.{arith}
use borrow.Author.Tests.{eq-eqb}
use Rattle.verdict.proofs.nearer.Goals as goal

pub returns-then-start-eq65535 : goal.returns-then-start-eq65535
returns-then-start-eq65535 c = record { least = omega arith; later = λ h. h; free = λ h. absurd (simp (eq-eqb _ _ c.if-start-eq65535.true) at h) }
