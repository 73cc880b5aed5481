use mathlib.Core.Path.{ap₂}
use native.Mathlib.Omega.{arith}
use Prim.Native.Nat.{ℕ, ◌+◌}
use Rattle.plantext.specs.Form.{name_end}
use Rattle.plantext.proofs.name_end.Goals as goal

pub returns : goal.returns
unfolding name_end
returns c = (ap₂ (λ (m n : ℕ). m + n) c.name_at.ensures.0 c.name_length.ensures.0, omega (arith, c.name_at.ensures.1, c.name_length.ensures.1))
