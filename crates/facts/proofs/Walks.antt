-- A walk over the facts of a word: the lowest is taken and cleared.
-- Assumes nothing.
use mathlib.Core.Path.{◌≡◌, sym, ap, subst, ◌∙◌}
use mathlib.Core.Logic.{◌⊎◌, inl, inr, ⊎_elim}
use Prim.Native.Nat.{ℕ, zero, suc, ◌-◌, ◌/◌, ◌%◌, ◌<◌, ◌^◌}
use native.Mathlib.Nat.{pow-succ', lt_of_le_of_lt}
use native.Mathlib.Omega.{arith}
use native.Mathlib.Decide.{dec_lt}
use lib.Bits.{bit_and, and_step, and_self, and_le_l, and_le_r}
use lib.Count.{count_trailing_zeros}
use lib.Dec.{T}
use Rattle.facts.specs.Facts.{has}
use Rattle.facts.proofs.Bools.{and_l, same}
use Rattle.facts.proofs.Digits.{digit, digit_suc, tz_odd, tz_even, parity}
use Rattle.facts.proofs.Sets.{has_and, has_digit, digit_has, has_zero, has_lt, some_fact, lowest_fact}
use Rattle.facts.specs.Least.{least}
use Rattle.facts.specs.Walks.{Walk, Comes}
use Rattle.facts.specs.Tests.{some_least}
use Rattle.std.specs.Prelude.{Option, Some, None}
use Rattle.facts.proofs.Least.{lowest, first_is}

-- the half of w & (w - 1)
half_odd : (w : ℕ) → w % 2 ≡ 1 → bit_and w (w - 1) / 2 ≡ w / 2
half_odd w o = let e : (w - 1) / 2 ≡ w / 2 = omega arith in omega (arith, and_step w (w - 1), ap (λ (x : ℕ). bit_and (w / 2) x) e, and_self (w / 2))

half_even : (w : ℕ) → 0 < w → w % 2 ≡ 0 → bit_and w (w - 1) / 2 ≡ bit_and (w / 2) (w / 2 - 1)
half_even w l o = let e : (w - 1) / 2 ≡ w / 2 - 1 = omega arith in omega (arith, and_step w (w - 1), ap (λ (x : ℕ). bit_and (w / 2) x) e)

-- a digit is the lowest, or is left when the lowest is cleared
rest_digit : (k w p : ℕ) → w < 2 ^ k → 0 < w → digit w p ≡ 1 → (p ≡ count_trailing_zeros k w) ⊎ (digit (bit_and w (w - 1)) p ≡ 1)
rest_digit zero w p b l h = absurd (omega arith)
rest_digit (suc k) w zero b l h = ⊎_elim (λ e. absurd (omega arith)) (λ o. inl (sym (tz_odd k w o))) (parity w)
rest_digit (suc k) w (suc q) b l h =
    ⊎_elim
    (λ e. ⊎_elim
    (λ i. inl (ap suc i ∙ sym (tz_even k w e)))
    (λ i. inr (digit_suc _ q ∙ (ap (λ (x : ℕ). digit x q) (half_even w l e) ∙ i)))
    (rest_digit k (w / 2) q (omega (arith, pow-succ' 2 k)) (omega arith) (sym (digit_suc w q) ∙ h)))
    (λ o. inr (digit_suc _ q ∙ (ap (λ (x : ℕ). digit x q) (half_odd w o) ∙ (sym (digit_suc w q) ∙ h))))
    (parity w)

pub walk : (k w : ℕ) → w < 2 ^ k → 0 < w → Walk k w (bit_and w (w - 1))
walk k w b l = record {
  less = omega (arith, and_le_r w (w - 1));
  of = λ p h. and_l (has w p) (has (w - 1) p) (subst T (has_and w (w - 1) p) h);
  rest = λ p h. ⊎_elim (λ e. inl (e ∙ lowest_fact k w)) (λ d. inr (digit_has _ p d)) (rest_digit k w p b l (has_digit w p h));
}

-- ── a walk misses nothing ──

-- every number of the word `all` is still in w, or X is so of it
pub record Done (X : ℕ → Type 0) (all w : ℕ) : Type 0 where
  pub left : (i : ℕ) → T (has all i) → T (has w i) ⊎ X i

pub done_none : {X : ℕ → Type 0} {w : ℕ} → Done X w w
done_none = record { left = λ i h. inl h }

pub done_next : {X : ℕ → Type 0} {k all w r : ℕ} → Done X all w → Walk k w r → X (least (has w) k) → Done X all r
done_next {X} {k} {all} {w} {r} f d x = record { left = λ i h. ⊎_elim (λ y. ⊎_elim (λ e. inr (subst X (sym e) x)) inl (d.rest i y)) inr (f.left i h) }

pub done_map : {X Y : ℕ → Type 0} {all w : ℕ} → ((i : ℕ) → X i → Y i) → Done X all w → Done Y all w
done_map g f = record { left = λ i h. ⊎_elim inl (λ x. inr (g i x)) (f.left i h) }

pub done_all : {X : ℕ → Type 0} {all w : ℕ} → Done X all w → w ≡ 0 → (i : ℕ) → T (has all i) → X i
done_all f e i h = ⊎_elim (λ y. absurd (has_zero i (subst (λ (x : ℕ). T (has x i)) e y))) (λ x. x) (f.left i h)

-- the lowest of a word that is not empty is in it
pub lowest_in : (k w : ℕ) → w < 2 ^ k → (w ≡ 0 → ⊥) → T (has w (least (has w) k))
lowest_in k w b n = let p = some_fact w n in (lowest (has w) k).hit (go (dec_lt (least (has w) k) k) p.0 p.1)
  where
    go : Dec (least (has w) k < k) → (p : ℕ) → T (has w p) → least (has w) k < k
    go (yes h) p x = h
    go (no h) p x = absurd ((lowest (has w) k).first p (omega (arith, has_lt k w p b x)) x)

-- w is what a walk over the word `all` of k digits has left
pub record Over (k all w : ℕ) : Type 0 where
  pub short : w < 2 ^ k
  pub from : (i : ℕ) → T (has w i) → T (has all i)

pub over_all : {k w : ℕ} → w < 2 ^ k → Over k w w
over_all l = record { short = l; from = λ i h. h }

pub over_both : {k : ℕ} (v w : ℕ) → v < 2 ^ k → Over k v (bit_and v w)
over_both v w l = record { short = lt_of_le_of_lt (and_le_l v w) l; from = λ i h. and_l (has v i) (has w i) (subst T (has_and v w i) h) }

pub over_next : {k all w r : ℕ} → Over k all w → Walk k w r → Over k all r
over_next o d = record { short = omega (arith, o.short, d.less); from = λ i h. o.from i (d.of i h) }

pub over_here : {k all w i : ℕ} → Over k all w → (w ≡ 0 → ⊥) → i ≡ least (has w) k → T (has all i)
over_here {k} {w = w} {i} o n e = o.from i (rw e (lowest_in k w o.short n))

pub over_lt : {k all w i : ℕ} → Over k all w → (w ≡ 0 → ⊥) → i ≡ least (has w) k → i < k
over_lt {k} {w = w} {i} o n e = has_lt k w i o.short (rw e (lowest_in k w o.short n))

-- a step of a walk over a word comes to its first fact
pub first_in : (w : ℕ) (r : Option ℕ) (v : ℕ) → w < 2 ^ 64 → Comes w r v → r ≡ some_least (has w) 64
first_in w None v l e = first_is (has w) 64 None (λ k h. same _ _ (λ x. absurd (has_zero k (rw e at x))) (λ x. absurd x))
first_in w (Some p) v l e =
    let at : T (has w p) = rw e.1 (lowest_in 64 w l (omega (arith, e.0))) in
    first_is (has w) 64 (Some p) (has_lt 64 w p l at, same _ _ (λ _. tt) (λ _. at), λ k h. same _ _ (λ x. absurd ((lowest (has w) 64).first k (omega (arith, e.1, h)) x)) (λ x. absurd x))
