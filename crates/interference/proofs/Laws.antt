-- The clash of two jobs by the lowest facts that code found.
-- Assumes nothing.
use mathlib.Core.Path.{◌≡◌, refl, ap, sym, ◌∙◌}
use mathlib.Core.Bool.{true, false, not}
use lib.Dec.{eqb}
use Rattle.rules.specs.declared.Clash.{Clash}
use Prim.Native.Nat.{ℕ, ◌≤◌, ◌<◌}
use Rattle.facts.specs.Least.{least, any}
use Rattle.facts.proofs.Bools.{chosen, unchosen}
use Rattle.facts.proofs.Least.{found_any, found_none}
use Rattle.rules.specs.declared.Clash.TheVariants.{None, Condition, Addition}
use Rattle.rules.specs.Clashes.{Masks, on_condition, on_addition, clash_of, numbers}

module _ (a b : Masks) {c : ℕ} (ce : c ≡ least (on_condition a b) 64) where
  pub by_condition : c < 64 → Condition c ≡ clash_of a b
  unfolding clash_of
  by_condition l = ap Condition ce ∙ sym (chosen (any (on_condition a b) 64) _ _ (found_any (on_condition a b) ce l))

  module _ (no : 64 ≤ c) {d : ℕ} (de : d ≡ least (on_addition a b) 64) where
    pub by_addition : d < 64 → Addition d ≡ clash_of a b
    unfolding clash_of
    by_addition l =
        ap Addition de ∙ sym (unchosen (any (on_condition a b) 64) _ _ (found_none (on_condition a b) ce no) ∙ chosen (any (on_addition a b) 64) _ _ (found_any (on_addition a b) de l))

    pub by_none : 64 ≤ d → None ≡ clash_of a b
    unfolding clash_of
    by_none l = sym (unchosen (any (on_condition a b) 64) _ _ (found_none (on_condition a b) ce no) ∙ unchosen (any (on_addition a b) 64) _ _ (found_none (on_addition a b) de l))

-- a clash has a kind other than 0 where it is one
pub told_none : (k : Clash) → k ≡ None → not (eqb (numbers k).kind 0) ≡ false
told_none k e = ap (λ (x : Clash). not (eqb (numbers x).kind 0)) e

pub told_some : (k : Clash) → (k ≡ None → ⊥) → not (eqb (numbers k).kind 0) ≡ true
told_some None n = absurd (n refl)
told_some (Condition p) n = refl
told_some (Addition p) n = refl
