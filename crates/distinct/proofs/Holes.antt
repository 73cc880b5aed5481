-- Pigeonholes: where different numbers go to different numbers, there are no fewer of these.
-- Assumes nothing.
use mathlib.Core.Path.{◌≡◌, refl, ◌∙◌}
use mathlib.Core.Logic.{◌⊎◌, inl, inr, ◌≢◌, ⊎_elim}
use mathlib.Core.Bool.{Bool, true, false, cond, not, ◌&&◌}
use Prim.Native.Nat.{ℕ, zero, suc, ◌+◌, ◌/◌, ◌≤◌, ◌<◌, ◌^◌}
use native.Mathlib.Nat.{pow-suc}
use native.Mathlib.Omega.{arith}
use lib.Count.{ones, ones_step}
use lib.Dec.{T, eqb}
use Rattle.facts.specs.Facts.{has}
use Rattle.facts.proofs.Bools.{T?, and_l, and_r, and_of, not_eqb, eqb_not}
use Rattle.facts.proofs.Digits.{digit, digit_suc}
use Rattle.facts.proofs.Sets.{has_digit, digit_has}
use Rattle.rules.proofs.Sums.{sum_le, sum_more, cond_yes, cond_no}
use Rattle.rules.specs.Sums.{sum}

-- how many numbers below n pass the test
abbrev pub tally : (ℕ → Bool) → ℕ → ℕ
tally m n = sum (λ i. cond (m i) 1 0) n

-- the test without one number
abbrev pub but : (ℕ → Bool) → ℕ → ℕ → Bool
but v j i = v i && not (eqb i j)

one_le : (a b : Bool) → (T a → T b) → cond a 1 0 ≤ cond b 1 0
one_le true true h = omega arith
one_le true false h = absurd (h tt)
one_le false b h = omega arith

pub tally_but : (v : ℕ → Bool) (k j : ℕ) → j < k → T (v j) → tally (but v j) k + 1 ≤ tally v k
tally_but v k j l h =
    sum_more (λ i. cond (but v j i) 1 0) (λ i. cond (v i) 1 0) k j 1 (λ i m. one_le (but v j i) (v i) (and_l (v i) _)) l
    (omega (arith, cond_no (but v j j) 1 0 (λ x. eqb_not j j (and_r (v j) _ x) refl), cond_yes (v j) 1 0 h))

-- the law
pub hole : (n k : ℕ) (m v : ℕ → Bool) (f : (i : ℕ) → T (m i) → ℕ) → ((i : ℕ) (h : T (m i)) → i < n → (f i h < k) × T (v (f i h)))
    → ((i j : ℕ) (h : T (m i)) (g : T (m j)) → i < n → j < n → i ≢ j → f i h ≢ f j g) → tally m n ≤ tally v k
unfolding sum
hole zero k m v f into apart = omega arith
hole (suc n) k m v f into apart = go (T? (m n)) (λ w g. hole n k m w f g (λ i j h g l o ne. apart i j h g (omega arith) (omega arith) ne))
  where
    go : T (m n) ⊎ (T (m n) → ⊥) → ((w : ℕ → Bool) → ((i : ℕ) (h : T (m i)) → i < n → (f i h < k) × T (w (f i h))) → tally m n ≤ tally w k) → cond (m n) 1 0 + tally m n ≤ tally v k
    go (inr x) r = omega (arith, cond_no (m n) 1 0 x, r v (λ i h l. into i h (omega arith)))
    go (inl x) r =
        let j = f n x in
        let fewer : tally m n ≤ tally (but v j) k = r (but v j) (λ i h l. (let y = into i h (omega arith) in (y.0, and_of (v (f i h)) _ y.1 (not_eqb (f i h) j (apart i n h x (omega arith) (omega arith) (λ e. omega arith)))))) in
        omega (arith, cond_yes (m n) 1 0 x, tally_but v k j (into n x (omega arith)).0 (into n x (omega arith)).1)

-- ── the ones of a word ──

sum_first : (f : ℕ → ℕ) (n : ℕ) → sum f (suc n) ≡ f 0 + sum (λ i. f (suc i)) n
unfolding sum
sum_first f zero = omega arith
sum_first f (suc n) = omega (arith, sum_first f n)

sum_same : (f g : ℕ → ℕ) (n : ℕ) → ((j : ℕ) → f j ≡ g j) → sum f n ≡ sum g n
sum_same f g n h = omega (arith, sum_le f g n (λ j l. omega (arith, h j)), sum_le g f n (λ j l. omega (arith, h j)))

ones_sum : (k w : ℕ) → w < 2 ^ k → ones w ≡ sum (digit w) k
unfolding ones sum
ones_sum zero w l = let e : w ≡ 0 = omega arith in rw e refl
ones_sum (suc k) w l = omega (arith, ones_step w, ones_sum k (w / 2) (omega (arith, pow-suc 2 k)), sum_first (digit w) k, sum_same (λ i. digit w (suc i)) (digit (w / 2)) k (digit_suc w))

digit_one : (w i : ℕ) → digit w i ≡ cond (has w i) 1 0
digit_one w i = ⊎_elim (λ h. omega (arith, has_digit w i h, cond_yes (has w i) 1 0 h)) (λ n. (let ne : digit w i ≢ 1 = λ e. n (digit_has w i e) in omega (arith, cond_no (has w i) 1 0 n))) (T? (has w i))

pub ones_tally : (k w : ℕ) → w < 2 ^ k → ones w ≡ tally (has w) k
ones_tally k w l = ones_sum k w l ∙ sum_same (digit w) (λ i. cond (has w i) 1 0) k (digit_one w)
