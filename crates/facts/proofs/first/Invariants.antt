use Prim.Native.Nat.{ℕ, ◌<◌}
use mathlib.Core.Path.{◌≡◌}
use mathlib.Core.Bool.{Bool, false}
use Rattle.facts.specs.Tests.{Agrees}
use Rattle.facts.proofs.first.Given as goal

abbrev pub invariant-loop-i : goal.invariant-loop-i
invariant-loop-i g l = (f : ℕ → Bool) → ((i : ℕ) → i < l.n → Agrees f i (goal.F-post g l.test i)) → (k : ℕ) → k < l.i → f k ≡ false
