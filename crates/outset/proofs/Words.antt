-- The words that the table holds, and the places where they stand.
-- Assumes nothing.
use mathlib.Core.Path.{◌≡◌, sym, subst}
use mathlib.Core.Bool.{Bool, ◌&&◌}
use Prim.Native.Nat.{ℕ, ◌%◌, ◌≤◌, ◌<◌, ◌^◌, min}
use mir.Syntax.{w16}
use mir.Val.{Fits}
use native.Mathlib.Omega.{arith}
use lib.Dec.{T, ltb, ltb→lt, lt→ltb}
use Rattle.facts.specs.Words.{Word}
use Rattle.facts.proofs.Bools.{and_l, and_r, and_of}
use Rattle.facts.proofs.Sets.{below_pow}
use Rattle.lent.specs.Lent.{Cols}
use Rattle.outset.specs.Outset.{Upto}

-- the jobs of the table that pass a test, as a word, which is its own lower half
pub cols_those : (n : ℕ) (f : ℕ → Bool) {m w v : ℕ} → m ≡ min n 24 → Word (λ j. ltb j m && f j) w → v ≡ w → Cols (λ j. (j < n) × T (f j)) (v % 2 ^ 32) 24
cols_those n f {m} {w} {v} k e h = subst (λ (x : ℕ). Cols (λ j. (j < n) × T (f j)) x 24) (sym half) cols
  where
    cols : Cols (λ j. (j < n) × T (f j)) w 24
    cols = record {
      of = λ i h. (let z = subst T (e i) h in let l = ltb→lt i m (and_l _ _ z) in (omega (arith, l, k), (omega (arith, l, k), and_r (ltb i m) _ z)));
      at = λ i l h. subst T (sym (e i)) (and_of (ltb i m) _ (lt→ltb i m (omega (arith, h.0, k))) h.1);
    }

    half : v % 2 ^ 32 ≡ w
    half = omega (arith, h, below_pow 24 w (λ p x. (cols.of p x).0))

-- so is a number of 16 bits
pub narrow : {x y : ℕ} → y ≡ x → Fits w16 x → y % 2 ^ 32 ≡ x
narrow e h = omega (arith, e, h)

-- ── a place of the table ──

pub here : {i n : ℕ} {A B : Type 0} → i < n → A → Upto i n A B
here l x = record { here = λ m. x; there = λ m. absurd (omega arith) }

pub there : {i n : ℕ} {A B : Type 0} → n ≤ i → B → Upto i n A B
there l x = record { here = λ m. absurd (omega arith); there = λ m. x }
