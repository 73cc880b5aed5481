-- What is closed under the rules of a problem is closed under those of one alike that deletes as much or more.
-- Assumes nothing.
use mathlib.Core.Path.{◌≡◌, sym, subst}
use Prim.Native.Nat.{ℕ, ◌<◌}
use native.Mathlib.Omega.{arith}
use lib.Dec.{T}
use Rattle.facts.specs.Facts.{has}
use Rattle.rules.specs.Table.{Problem, needs}
use Rattle.rules.specs.Premises.{InOrder, adds, deletes}
use Rattle.reach.specs.Reach.{PairSet, Fit, Closed}

-- P and R have the same jobs but for what these delete, and the same opening facts
pub record Alike (P R : Problem) : Type 0 where
  pub count : P.count ≡ R.count
  pub conditions : (i : ℕ) → i < P.count → P.conditions i ≡ R.conditions i
  pub additions : (i p : ℕ) → i < P.count → p < 64 → has (P.additions i) p ≡ has (R.additions i) p
  pub opening : P.opening ≡ R.opening

module _ (P R : Problem) (ok : InOrder P) (a : Alike P R) (more : (i p : ℕ) → i < P.count → deletes R i p → deletes P i p) (S : PairSet) where
  below : (i : ℕ) → i < P.count → i < R.count
  below i l = omega (arith, a.count)

  opened : (p : ℕ) → T (has P.opening p) → T (has R.opening p)
  opened p x = subst (λ (w : ℕ). T (has w p)) a.opening x

  needed : (i p : ℕ) → i < P.count → needs R i p → needs P i p
  needed i p l x = subst (λ (w : ℕ). T (has w p)) (sym (a.conditions i l)) x

  added : (i p : ℕ) → i < P.count → adds P i p → adds R i p
  added i p l x = subst T (a.additions i p l (ok.added i l p x)) x

  pub fit_alike : (i : ℕ) → i < P.count → Fit P S i → Fit R S i
  fit_alike i l f r u x y = f r u (needed i r l x) (needed i u l y)

  pub closed_alike : Closed R S → Closed P S
  closed_alike c = record {
    swaps = c.swaps;
    opens = λ p q x y. c.opens p q (opened p x) (opened q y);
    both = λ i p q l f x y. c.both i p q (below i l) (fit_alike i l f) (added i p l x) (added i q l y);
    beside = λ i p q l f x n h k. c.beside i p q (below i l) (fit_alike i l f) (added i p l x) (λ z. n (more i q l z)) h (λ r m. k r (needed i r l m));
  }
