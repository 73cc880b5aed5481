-- What every valid plan keeps to, and that it fits the state that says nothing.
-- Assumes nothing.
use mathlib.Core.Path.{◌≡◌, subst}
use mathlib.Core.List.{List}
use Prim.Native.Nat.{ℕ, ◌+◌, ◌≤◌}
use native.Mathlib.Omega.{arith}
use lib.Dec.{T}
use Rattle.facts.specs.Facts.{has}
use Rattle.facts.proofs.Sets.{has_zero}
use Rattle.rules.specs.Plans.{Plan}
use Rattle.states.specs.State.{Search, HasJob, Good, Fits}
use Rattle.cells.specs.View.{view, Blank}
use Rattle.lent.specs.Lent.{Lent, wait_of, bound_of}
use Rattle.outset.specs.Outset.{ListedPlan}

-- from a job of a valid plan on there is time in the bound
pub in_bound : {L : List ℕ} {P : Search} {Q : Plan} {j rest bound : ℕ} → ListedPlan L P Q → HasJob P Q j → rest ≡ wait_of L j 24 → bound ≡ bound_of L → Q j + rest ≤ bound
in_bound {P = P} {Q} {j} e k s b = omega (arith, (e.0.listed.apart j k.below).ends P.bound Q e.1 k, e.0.bound)

pub blank_fits : {L : List ℕ} {P : Search} {Q : Plan} (s : List ℕ) → Lent L P → Blank s 24 → Good P Q → Fits P Q (view s)
blank_fits s e b g = record {
  stays = record {
    inside = λ j h. absurd (has_zero j (subst (λ (w : ℕ). T (has w j)) b.ins h));
    barred = λ j h k. has_zero j (subst (λ (w : ℕ). T (has w j)) b.outs h);
    lo = λ j k. omega (arith, b.los j);
    hi = λ j k. omega (arith, b.his j (omega (arith, k.below, e.listed.few)), g.inside j k, e.short);
  };
  sure = λ x y h k m. absurd (has_zero x (subst (λ (w : ℕ). T (has w x)) (b.sures y) h));
  never = λ x y h k m n. has_zero x (subst (λ (w : ℕ). T (has w x)) (b.nevers y) h);
}
