use mathlib.Core.Path.{ap}
use native.Mathlib.Omega.{arith}
use Prim.Native.Nat.{ℕ, ◌+◌}
use Rattle.plantext.specs.Form.{name_at}
use Rattle.plantext.proofs.name_at.Goals as goal

pub returns : goal.returns
unfolding name_at
returns c = (ap (λ (n : ℕ). n + 3) c.number_end.ensures.says, omega (arith, c.number_end.ensures.fits))
