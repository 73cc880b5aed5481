-- What the test of a set in the code says.
-- Assumes nothing.
use mathlib.Core.Path.{◌≡◌}
use mathlib.Core.Bool.{false}
use Prim.Native.Nat.{ℕ, ◌^◌, ◌≤◌, ◌<◌}
use native.Mathlib.Omega.{arith}
use Rattle.facts.specs.Facts.{has}
use Rattle.facts.proofs.Bools.{same}
use Rattle.facts.proofs.Sets.{has_lt}

-- a word of 64 bits has nothing at 64 or above
pub none_high : (w p : ℕ) → w < 2 ^ 64 → 64 ≤ p → false ≡ has w p
none_high w p l h = same false _ (λ x. absurd x) (λ x. omega (arith, has_lt 64 w p l x))
