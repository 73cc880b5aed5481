-- The word of a test: its bits are those that pass, and a word with these bits is it.
-- Assumes nothing.
use mathlib.Core.Path.{◌≡◌, refl, sym, ap₂, subst}
use mathlib.Core.Logic.{◌⊎◌, inl, inr, ⊎_elim}
use mathlib.Core.Bool.{Bool, true, false, ◌&&◌, ◌||◌, cond}
use Prim.Native.Nat.{ℕ, zero, suc, ◌^◌, ◌<◌}
use native.Mathlib.Omega.{arith}
use lib.Bits.{bit_or}
use lib.Dec.{T, eqb, eqb→eq, eqb_refl}
use Rattle.facts.specs.Facts.{has}
use Rattle.readings.specs.Opening.{word_of}
use Rattle.facts.proofs.Bools.{same, and_l, and_r, and_of, or_cases, or_l, or_r, below_suc}
use Rattle.facts.proofs.Sets.{has_zero, has_lt, has_or, has_pow, same_word}

-- bit j of the last part of a word
last_bit : (b : Bool) (k j : ℕ) → has (cond b (2 ^ k) 0) j ≡ (b && eqb j k)
last_bit true k j = has_pow k j
last_bit false k j = same _ false (has_zero j) (λ f. absurd f)

pub word_in : (f : ℕ → Bool) (k j : ℕ) → T (has (word_of f k) j) → (j < k) × T (f j)
unfolding word_of
word_in f zero j h = absurd (has_zero j h)
word_in f (suc k) j h =
    ⊎_elim (λ a. (omega (arith, (word_in f k j a).0), (word_in f k j a).1)) (λ b. there (subst T (last_bit (f k) k j) b))
    (or_cases (has (word_of f k) j) (has (cond (f k) (2 ^ k) 0) j) (subst T (has_or (word_of f k) (cond (f k) (2 ^ k) 0) j) h))
  where
    there : T (f k && eqb j k) → (j < suc k) × T (f j)
    there b = let e = eqb→eq j k (and_r (f k) (eqb j k) b) in (omega (arith, e), subst (λ (x : ℕ). T (f x)) (sym e) (and_l (f k) (eqb j k) b))

pub word_has : (f : ℕ → Bool) (k j : ℕ) → j < k → T (f j) → T (has (word_of f k) j)
unfolding word_of
word_has f zero j l h = absurd (omega arith)
word_has f (suc k) j l h = subst T (sym (has_or (word_of f k) (cond (f k) (2 ^ k) 0) j)) (go (below_suc j k l) (λ m. word_has f k j m h))
  where
    go : (j < k) ⊎ (j ≡ k) → (j < k → T (has (word_of f k) j)) → T (has (word_of f k) j || has (cond (f k) (2 ^ k) 0) j)
    go (inl m) r = or_l (has (word_of f k) j) (has (cond (f k) (2 ^ k) 0) j) (r m)
    go (inr e) r =
        or_r (has (word_of f k) j) (has (cond (f k) (2 ^ k) 0) j)
        (subst T (sym (last_bit (f k) k j)) (and_of (f k) (eqb j k) (subst (λ (x : ℕ). T (f x)) e h) (subst (λ (x : ℕ). T (eqb j x)) e (eqb_refl j))))

-- the bits of the word are those of f
pub word_bit : (f : ℕ → Bool) (k j : ℕ) → j < k → has (word_of f k) j ≡ f j
word_bit f k j l = same (has (word_of f k) j) (f j) (λ h. (word_in f k j h).1) (word_has f k j l)

-- a word with those bits below k and no others is the word
pub word_is : (f : ℕ → Bool) (k w : ℕ) → w < 2 ^ k → ((j : ℕ) → j < k → has w j ≡ f j) → w ≡ word_of f k
word_is f k w short h =
    same_word w (word_of f k) (λ p. same (has w p) (has (word_of f k) p)
    (λ t. word_has f k p (has_lt k w p short t) (subst T (h p (has_lt k w p short t)) t))
    (λ t. subst T (sym (h p (word_in f k p t).0)) (word_in f k p t).1))

-- it depends on the bits below k alone
pub word_same : (f g : ℕ → Bool) (k : ℕ) → ((j : ℕ) → j < k → f j ≡ g j) → word_of f k ≡ word_of g k
unfolding word_of
word_same f g zero h = refl
word_same f g (suc k) h = ap₂ (λ (w : ℕ) (b : Bool). bit_or w (cond b (2 ^ k) 0)) (word_same f g k (λ j l. h j (omega arith))) (h k (omega arith))
