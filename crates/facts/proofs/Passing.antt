-- A word filled number by number by a test.
-- Assumes nothing.
use mathlib.Core.Path.{◌≡◌, sym, ap, ap₂, ◌∙◌}
use mathlib.Core.Logic.{◌⊎◌, inl, inr}
use mathlib.Core.Bool.{Bool, false, ◌&&◌, ◌||◌}
use Prim.Native.Nat.{ℕ, ◌+◌, ◌<◌}
use native.Mathlib.Omega.{arith}
use borrow.Author.Tests.{lt-ltb, le-ltb}
use lib.Dec.{T, eqb, ltb, eqb→eq, lt→ltb, ltb→lt}
use Rattle.facts.specs.Facts.{has}
use Rattle.facts.specs.Words.{Word}
use Rattle.facts.proofs.Bools.{and_l, and_r, and_of, or_cases, or_l, or_r, same, eqb_of, below_suc}
use Rattle.facts.proofs.Sets.{has_zero}

-- the numbers below n that pass the test
abbrev pub Passing : (ℕ → Bool) → (n w : ℕ) → Type 0
Passing g n w = Word (λ k. ltb k n && g k) w

pub passing_none : (g : ℕ → Bool) → Passing g 0 0
passing_none g k = same (has 0 k) false (has_zero k) (λ x. absurd x) ∙ ap (λ (b : Bool). b && g k) (sym (le-ltb k 0 (omega arith)))

pub passing_more : (g : ℕ → Bool) (n w v : ℕ) {y : Bool} → Passing g n w → y ≡ g n → Word (λ k. has w k || (y && eqb k n)) v → Passing g (n + 1) v
passing_more g n w v {y} l e h k = h k ∙ ap₂ (λ (x z : Bool). x || (z && eqb k n)) (l k) e ∙ same _ _ (λ x. up (or_cases (ltb k n && g k) _ x)) down
  where
    up : T (ltb k n && g k) ⊎ T (g n && eqb k n) → T (ltb k (n + 1) && g k)
    up (inl x) = and_of (ltb k (n + 1)) _ (lt→ltb k (n + 1) (omega (arith, ltb→lt k n (and_l (ltb k n) _ x)))) (and_r (ltb k n) _ x)
    up (inr x) =
        let at : k ≡ n = eqb→eq k n (and_r (g n) _ x) in
        and_of (ltb k (n + 1)) _ (lt→ltb k (n + 1) (omega arith)) (rw at (and_l (g n) _ x))

    down : T (ltb k (n + 1) && g k) → T ((ltb k n && g k) || (g n && eqb k n))
    down x = go (below_suc k n (omega (arith, ltb→lt k (n + 1) (and_l (ltb k (n + 1)) _ x)))) (and_r (ltb k (n + 1)) _ x)
      where
        go : (k < n) ⊎ (k ≡ n) → T (g k) → T ((ltb k n && g k) || (g n && eqb k n))
        go (inl m) z = or_l (ltb k n && g k) _ (and_of (ltb k n) _ (lt→ltb k n m) z)
        go (inr m) z = or_r (ltb k n && g k) _ (and_of (g n) _ (rw m at z) (eqb_of m))

pub passing_at : (g : ℕ → Bool) (n w k : ℕ) → Passing g n w → k < n → has w k ≡ g k
passing_at g n w k h l = h k ∙ ap (λ (b : Bool). b && g k) (lt-ltb k n l)

-- no number from n on is in the word, nor from n + 1 on when n may come to it
pub short_more : (n w v : ℕ) (y : Bool) → ((p : ℕ) → T (has w p) → p < n) → Word (λ k. has w k || (y && eqb k n)) v → (p : ℕ) → T (has v p) → p < n + 1
short_more n w v y l h p x = go (or_cases (has w p) _ (rw (h p) at x))
  where
    go : T (has w p) ⊎ T (y && eqb p n) → p < n + 1
    go (inl z) = omega (arith, l p z)
    go (inr z) = omega (arith, eqb→eq p n (and_r y _ z))
