-- An array made by a closure that changes nothing: what each call gives stands at its place.
-- Assumes nothing.
use mathlib.Core.Path.{◌≡◌, sym, subst}
use mathlib.Core.Logic.{⊎_elim}
use mathlib.Core.List.{List}
use Prim.Native.Nat.{ℕ, zero, suc, ◌+◌, ◌≤◌, ◌<◌}
use native.Mathlib.Omega.{arith}
use lib.ListN.{get_or}
use Rattle.std.specs.Fn.{Mut, Called}
use Rattle.std.specs.Array.{IsFromFnResultFrom, IsFromFnResult}
use Rattle.facts.proofs.Bools.{or_at}

module _ {F B : Type 0} (g : Mut F (ℕ × Unit {0}) B) (f : F) (ys : List B) (top : ℕ) (X : ℕ → B → Type 0) (one : (i : ℕ) (y : B) (q : F) → i < top → Called g f (i, tt) y q → X i y × (q ≡ f)) where
  from : (n i : ℕ) → IsFromFnResultFrom g f ys i n → i + n ≤ top → (k : ℕ) (d : B) → i ≤ k → k < i + n → X k (get_or ys k d)
  from zero i x t k d l m = absurd (omega arith)
  from (suc n) i (q, y, e, call, rest) t k d l m =
      let r = one i y q (omega arith) call in
      ⊎_elim (λ h. from n (i + 1) (subst (λ (x : F). IsFromFnResultFrom g x ys (i + 1) n) r.1 rest) (omega arith) k d (omega arith) (omega arith)) (λ h. subst (λ (j : ℕ). X j (get_or ys j d)) h (subst (X i) (sym (e.1 d)) r.0)) (or_at i k l)

  pub made : IsFromFnResult g f ys top → (k : ℕ) (d : B) → k < top → X k (get_or ys k d)
  made r k d l = from top 0 r.each (omega arith) k d (omega arith) (omega arith)
