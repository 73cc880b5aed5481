use mathlib.Core.Path.{ap}
use native.Mathlib.Omega.{arith}
use Prim.Native.Nat.{ℕ, ◌+◌}
use Rattle.plantext.specs.Form.{duration_at}
use Rattle.plantext.proofs.duration_at.Goals as goal

pub returns : goal.returns
unfolding duration_at
returns c = (ap (λ (n : ℕ). n + 3) c.name_end.ensures.0, omega (arith, c.name_end.ensures.1))
