-- The word that the marks open: what has the facts of a test is the word of that test, and setting then clearing opened them. Assumes nothing.
use mathlib.Core.Path.{◌≡◌, refl, sym, ap, ◌∙◌, subst}
use mathlib.Core.Bool.{Bool, true, false, not, ◌&&◌, ◌||◌, cond}
use mathlib.Core.Logic.{◌⊎◌, inl, inr}
use Prim.Native.Nat.{ℕ, zero, suc, ◌^◌, ◌<◌}
use native.Mathlib.Nat.{lt_trans}
use native.Mathlib.Omega.{arith}
use lib.Bits.{or_lt}
use lib.Dec.{T, eqb, eqb→eq, lit<}
use lib.IntN.{ℤ}
use lib.Pow.{pow-lt, pow_pos}
use Rattle.facts.specs.Facts.{has}
use Rattle.facts.specs.Words.{Word}
use Rattle.facts.specs.Least.{any}
use Rattle.facts.proofs.Bools.{below_suc, and_l, and_r, and_of, or_cases, or_l, or_r, same, eqb_of}
use Rattle.facts.proofs.Least.{any_of, any_at}
use Rattle.facts.proofs.Sets.{has_zero, has_lt, has_or, has_pow, word_only}
use Rattle.readings.specs.Marks.{Marks, on, missed, marked, met}
use Rattle.readings.specs.Opening.{opened, word_of}

-- ---- the word of a test

-- the digit of one fact
digit_has : (b : Bool) (k p : ℕ) → has (cond b (2 ^ k) 0) p ≡ (b && eqb p k)
digit_has true k p = has_pow k p
digit_has false k p = same _ _ (λ h. has_zero p h) (λ h. absurd h)

digit_lt : (b : Bool) (k : ℕ) → cond b (2 ^ k) 0 < 2 ^ suc k
digit_lt true k = pow-lt (omega arith)
digit_lt false k = pow_pos (suc k)

word_lt : (f : ℕ → Bool) (k : ℕ) → word_of f k < 2 ^ k
unfolding word_of
word_lt f zero = lit< tt
word_lt f (suc k) = or_lt (suc k) (word_of f k) (cond (f k) (2 ^ k) 0) (lt_trans (word_lt f k) (pow-lt (omega arith))) (digit_lt (f k) k)

word_suc : (f : ℕ → Bool) (k p : ℕ) → has (word_of f (suc k)) p ≡ (has (word_of f k) p || (f k && eqb p k))
unfolding word_of
word_suc f k p = has_or (word_of f k) (cond (f k) (2 ^ k) 0) p ∙ ap (λ (b : Bool). has (word_of f k) p || b) (digit_has (f k) k p)

in_word : (f : ℕ → Bool) (k p : ℕ) → p < k → T (f p) → T (has (word_of f k) p)
in_word f zero p l x = absurd (omega arith)
in_word f (suc k) p l x = rw (word_suc f k p) (go (below_suc p k l) (λ h. in_word f k p h x))
  where
    go : (p < k) ⊎ (p ≡ k) → (p < k → T (has (word_of f k) p)) → T (has (word_of f k) p || (f k && eqb p k))
    go (inl h) y = or_l (has (word_of f k) p) _ (y h)
    go (inr e) y = or_r (has (word_of f k) p) _ (and_of (f k) (eqb p k) (rw e at x) (eqb_of e))

of_word : (f : ℕ → Bool) (k p : ℕ) → T (has (word_of f k) p) → T (f p)
unfolding word_of
of_word f zero p h = absurd (has_zero p h)
of_word f (suc k) p h = go (or_cases (has (word_of f k) p) (f k && eqb p k) (subst T (word_suc f k p) h)) (of_word f k p)
  where
    go : T (has (word_of f k) p) ⊎ T (f k && eqb p k) → (T (has (word_of f k) p) → T (f p)) → T (f p)
    go (inl x) y = y x
    go (inr x) y = rw (eqb→eq p k (and_r (f k) (eqb p k) x)) (and_l (f k) (eqb p k) x)

-- and nothing else of k digits does
pub word_is : (k : ℕ) (f : ℕ → Bool) (w : ℕ) → w < 2 ^ k → Word f w → w ≡ word_of f k
word_is k f w l x = word_only k f w (word_of f k) l (word_lt f k) x (λ p. same _ _ (of_word f k p) (λ h. in_word f k p (has_lt k w p l (subst T (sym (x p)) h)) h))

-- ---- set, then cleared

-- what is missed is marked
missed_marked : (temperature humidity : ℤ) (m : Marks) (p : ℕ) → T (any (λ i. missed temperature humidity p (m.mark i)) m.count) → T (marked m p)
missed_marked temperature humidity m p h =
    let x = any_at _ m.count h in
    any_of (λ i. on p (m.mark i)) m.count x.0 x.1 (and_l (on p (m.mark x.0)) _ x.2)

joined : (given mark miss : Bool) → (T miss → T mark) → ((given || mark) && not miss) ≡ cond mark (not miss) given
joined true true miss h = refl
joined false true miss h = refl
joined given false true h = absurd (h tt)
joined true false false h = refl
joined false false false h = refl

pub opened_is : (temperature humidity : ℤ) (m : Marks) (given v w : ℕ) → Word (λ p. has given p || marked m p) v → Word (λ p. has v p && met temperature humidity m p) w → Word (opened temperature humidity m given) w
opened_is temperature humidity m given v w x y p = y p ∙ rw (x p) (joined (has given p) (marked m p) (any (λ i. missed temperature humidity p (m.mark i)) m.count) (missed_marked temperature humidity m p))
