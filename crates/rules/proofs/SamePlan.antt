-- A plan is valid by the starts of the table's jobs alone.
-- Assumes nothing.
use mathlib.Core.Path.{◌≡◌, refl, sym, ap, ap₂, ◌∙◌, subst}
use mathlib.Core.Logic.{inl, inr, ⊎_elim}
use mathlib.Core.Bool.{Bool, not, ◌&&◌}
use Prim.Native.Nat.{ℕ, zero, suc, ◌+◌, ◌-◌, ◌≤◌, ◌<◌}
use native.Mathlib.Omega.{arith}
use lib.Dec.{T, eqb}
use Rattle.facts.specs.Facts.{has}
use Rattle.rules.specs.Table.{Problem}
use Rattle.rules.specs.Plans.{Plan, in_plan, In, ends, after_if, finishes, holds, Valid}

module _ (P : Problem) (s z : Plan) (same : (i : ℕ) → i < P.count → s i ≡ z i) where
  back : (i : ℕ) → In P z i → In P s i
  unfolding in_plan
  back i k = record { below = k.below; chosen = subst (λ (t : ℕ). T (not (eqb t 65535))) (sym (same i k.below)) k.chosen }

  finishes_same : (p t k : ℕ) (b c : Bool) → k ≤ P.count → b ≡ c → finishes P s p t k b ≡ finishes P z p t k c
  unfolding finishes ends in_plan
  finishes_same p t zero b c l e = e
  finishes_same p t (suc k) b c l e =
      ap₂ (λ (n : Bool) (y : Bool). after_if n (has (P.additions k) p) (has (P.deletions k) p) y)
      (ap (λ (x : ℕ). not (eqb x 65535) && eqb (x + P.duration k) t) (same k (omega arith)))
      (finishes_same p t k b c (omega arith) e)

  pub holds_same : (p t : ℕ) → holds P s p t ≡ holds P z p t
  unfolding holds
  holds_same p zero = refl
  holds_same p (suc t) = finishes_same p (suc t) P.count _ _ (omega arith) (holds_same p t)

  pub valid_same : (bound : ℕ) → Valid P bound s → Valid P bound z
  valid_same bound v = record {
    inside = λ i k. omega (arith, same i k.below, v.inside i (back i k));
    released = λ i k. omega (arith, same i k.below, v.released i (back i k));
    apart = λ i j k m h. ⊎_elim (λ o. inl (omega (arith, same i k.below, same j m.below))) (λ o. inr (omega (arith, same i k.below, same j m.below))) (v.apart i j (back i k) (back j m) h);
    ready = λ i p k n. subst T (holds_same p (s i - P.gap) ∙ ap (λ (t : ℕ). holds P z p (t - P.gap)) (same i k.below)) (v.ready i p (back i k) n);
    reached = λ p g. subst T (holds_same p bound) (v.reached p g);
  }
