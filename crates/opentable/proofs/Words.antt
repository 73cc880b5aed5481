-- A word of 32 bits with one bit changed, and with one taken out.
-- Assumes nothing.
use mathlib.Core.Path.{◌≡◌, refl, ap, ap₂, subst, ◌∙◌}
use mathlib.Core.Logic.{◌⊎◌, inl, inr, ⊎_elim}
use mathlib.Core.Bool.{Bool, true, false, not, ◌&&◌, ◌||◌, cond}
use Prim.Native.Nat.{ℕ, suc, ◌+◌, ◌-◌, ◌/◌, ◌^◌, ◌<◌}
use native.Mathlib.Omega.{arith}
use lib.Bits.{bit_or, bit_and}
use lib.Pow.{pow_pos}
use lib.Dec.{T, eqb, ltb, eqb→eq, ltb→lt, lt→ltb}
use Rattle.facts.specs.Facts.{has}
use Rattle.readings.specs.Opening.{word_of}
use Rattle.facts.specs.Words.{Word}
use Rattle.facts.proofs.Bools.{T?, same, and_l, or_cases, or_r, unchosen}
use Rattle.facts.proofs.Digits.{digit, digit_zero, digit_not}
use Rattle.facts.proofs.Sets.{digit_has, has_zero, has_lt, has_and, has_or, has_shr, word_with, below_pow}
use Rattle.opentable.proofs.Given.{word_is}
use Rattle.opentable.specs.Open.{moved_from}

-- a word with one bit set, and one with it cleared
pub bit_set : (w k : ℕ) → w < 2 ^ 32 → k < 24 → bit_or w (bit_or 0 (2 ^ k)) ≡ word_of (λ j. cond (eqb j k) true (has w j)) 32
bit_set w k short l = word_is (λ j. cond (eqb j k) true (has w j)) 32 _ (below_pow 32 _ low) (λ j m. bits j ∙ one (eqb j k) (has w j))
  where
    bits : (j : ℕ) → has (bit_or w (bit_or 0 (2 ^ k))) j ≡ (has w j || eqb j k)
    bits j = has_or w (bit_or 0 (2 ^ k)) j ∙ ap (λ (b : Bool). has w j || b) (word_with 0 k j ∙ same _ (eqb j k) (λ t. ⊎_elim (λ z. absurd (has_zero j z)) (λ e. e) (or_cases (has 0 j) (eqb j k) t)) (or_r (has 0 j) (eqb j k)))

    one : (b a : Bool) → (a || b) ≡ cond b true a
    one true true = refl
    one true false = refl
    one false true = refl
    one false false = refl

    low : (p : ℕ) → T (has (bit_or w (bit_or 0 (2 ^ k))) p) → p < 32
    low p t = ⊎_elim (has_lt 32 w p short) (λ e. omega (arith, eqb→eq p k e)) (or_cases (has w p) (eqb p k) (subst T (bits p) t))

pub bit_cleared : (w k v : ℕ) → w < 2 ^ 32 → Word (λ j. has w j && not (has (bit_or 0 (2 ^ k)) j)) v → v ≡ word_of (λ j. cond (eqb j k) false (has w j)) 32
bit_cleared w k v short h = word_is (λ j. cond (eqb j k) false (has w j)) 32 v (below_pow 32 v (λ p t. has_lt 32 w p short (and_l (has w p) (not (has (bit_or 0 (2 ^ k)) p)) (subst T (h p) t)))) (λ j m. h j ∙ (ap (λ (b : Bool). has w j && not b) (word_with 0 k j) ∙ one (has 0 j) (has_zero j) (eqb j k) (has w j)))
  where
    one : (z : Bool) → (T z → ⊥) → (b a : Bool) → (a && not (z || b)) ≡ cond b false a
    one true n b a = absurd (n tt)
    one false n true true = refl
    one false n true false = refl
    one false n false true = refl
    one false n false false = refl

-- the word of the bits below k
mask : (k j : ℕ) → has (2 ^ k - 1) j ≡ ltb j k
mask k j = same (has (2 ^ k - 1) j) (ltb j k) (λ t. lt→ltb j k (has_lt k (2 ^ k - 1) j (omega (arith, pow_pos k)) t)) (λ t. digit_has (2 ^ k - 1) j (ones (ltb→lt j k t)))
  where
    ones : j < k → digit (2 ^ k - 1) j ≡ 1
    ones l = let h : digit (2 ^ k - 1) j + 0 ≡ 1 = subst (λ (x : ℕ). digit (2 ^ k - 1) j + x ≡ 1) (digit_zero j) (subst (λ (x : ℕ). digit x j + digit 0 j ≡ 1) (omega arith) (digit_not k 0 j (pow_pos k) l)) in omega (arith, h)

-- a word without bit k, those above it moved down by one
pub bit_out : (w k m v : ℕ) → w < 2 ^ 32 → k < 24 → m ≡ 2 ^ k - 1 → Word (λ j. has (w / 2 ^ 1) j && not (has m j)) v → bit_or (bit_and w m) v ≡ word_of (λ j. has w (moved_from k j)) 32
bit_out w k m v short l e h = word_is (λ j. has w (moved_from k j)) 32 _ (below_pow 32 _ low) (λ j n. bits j)
  where
    one : (b x y : Bool) → ((x && b) || (y && not b)) ≡ cond b x y
    one true true true = refl
    one true true false = refl
    one true false true = refl
    one true false false = refl
    one false true true = refl
    one false true false = refl
    one false false true = refl
    one false false false = refl

    at : (b : Bool) (j : ℕ) → cond b (has w j) (has w (suc j)) ≡ has w (cond b j (suc j))
    at true j = refl
    at false j = refl

    bits : (j : ℕ) → has (bit_or (bit_and w m) v) j ≡ has w (moved_from k j)
    bits j =
        has_or (bit_and w m) v j
        ∙ (ap₂ (λ (a b : Bool). a || b) (has_and w m j ∙ ap (λ (b : Bool). has w j && b) (ap (λ (n : ℕ). has n j) e ∙ mask k j))
        (h j ∙ ap₂ (λ (a b : Bool). a && not b) (has_shr 1 w j ∙ ap (has w) (omega arith)) (ap (λ (n : ℕ). has n j) e ∙ mask k j))
        ∙ (one (ltb j k) (has w j) (has w (suc j)) ∙ at (ltb j k) j))

    low : (p : ℕ) → T (has (bit_or (bit_and w m) v) p) → p < 32
    low p t = up (T? (ltb p k)) (subst T (bits p) t)
      where
        up : T (ltb p k) ⊎ (T (ltb p k) → ⊥) → T (has w (moved_from k p)) → p < 32
        up (inl a) t = omega (arith, ltb→lt p k a)
        up (inr n) t = omega (arith, has_lt 32 w (suc p) short (subst (λ (x : ℕ). T (has w x)) (unchosen (ltb p k) p (suc p) n) t))
