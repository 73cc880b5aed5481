-- The words of the first jobs, taken together.
-- Assumes nothing.
use mathlib.Core.Path.{◌≡◌, sym, ap, subst, ◌∙◌}
use mathlib.Core.Bool.{Bool, ◌||◌}
use Prim.Native.Nat.{ℕ, zero, suc, ◌+◌}
use native.Mathlib.Omega.{arith}
use lib.Bits.{bit_or}
use Rattle.std.specs.List.{fold, range_with_len}
use Rattle.facts.specs.Facts.{has}
use Rattle.facts.specs.Least.{any}
use Rattle.facts.specs.Words.{Word}
use Rattle.facts.proofs.Bools.{same}
use Rattle.facts.proofs.Least.{any_at, any_more}
use Rattle.facts.proofs.Sets.{has_zero, has_or}

-- the words of the numbers below n
abbrev pub Gathered : (word : ℕ → ℕ) (n w : ℕ) → Type 0
Gathered word n w = Word (λ p. any (λ i. has (word i) p) n) w

from : (word : ℕ → ℕ) (n a m w : ℕ) → a + n ≡ m → Gathered word a w → Gathered word m (fold (λ all i. bit_or all (word i)) w (range_with_len a n))
from word zero a m w l e = let k : a ≡ m = omega arith in subst (λ (x : ℕ). Gathered word x w) k e
from word (suc n) a m w l e = from word n (a + 1) m (bit_or w (word a)) (omega arith) (λ p. has_or w (word a) p ∙ ap (λ (b : Bool). b || has (word a) p) (e p) ∙ sym (any_more (λ i. has (word i) p) a))

pub gathered : (word : ℕ → ℕ) (n : ℕ) → Gathered word n (fold (λ all i. bit_or all (word i)) 0 (range_with_len 0 n))
gathered word n = from word n 0 n 0 (omega arith) (λ p. same _ _ (λ t. absurd (has_zero p t)) (λ t. let z = any_at (λ i. has (word i) p) 0 t in absurd (omega (arith, z.1))))
