-- Why two jobs clash: over a condition or an addition, and the lowest fact concerned.
-- Assumes nothing.
use Rattle.std.specs.Prelude.{Bool, not, ◌&&◌, ◌||◌, cond, ℕ, eqb}
use Rattle.facts.specs.Facts.{has}
use Rattle.facts.specs.Least.{least, any}
use Rattle.rules.specs.declared.Clash.{Clash}
use Rattle.rules.specs.declared.Clash.TheVariants.{None, Condition, Addition}
use Rattle.rules.specs.declared.ClashNumbers.{ClashNumbers}
use Rattle.rules.specs.Table.{Problem}

-- the facts that a job needs, adds and deletes
pub record Masks : Type 0 where
  pub conditions : ℕ
  pub additions : ℕ
  pub deletions : ℕ

-- one of two jobs deletes p, which is in the word w of the other
unfoldable pub spoils : (w : Masks → ℕ) → (a b : Masks) → ℕ → Bool
spoils w a b p = (has a.deletions p && has (w b) p) || (has b.deletions p && has (w a) p)

-- one deletes p, a condition of the other
abbrev pub on_condition : (a b : Masks) → ℕ → Bool
on_condition a b = spoils (λ m. m.conditions) a b

-- one deletes p, an addition of the other
abbrev pub on_addition : (a b : Masks) → ℕ → Bool
on_addition a b = spoils (λ m. m.additions) a b

-- why two jobs clash, with the lowest fact of the kind that is said; a condition comes first where both apply
unfoldable pub clash_of : (a b : Masks) → Clash
clash_of a b =
    cond (any (on_condition a b) 64) (Condition (least (on_condition a b) 64))
    (cond (any (on_addition a b) 64) (Addition (least (on_addition a b) 64)) None)

-- kind and fact as numbers: 0 none, 1 a condition, 2 an addition; 64 for none
abbrev pub numbers : Clash → ClashNumbers
numbers None = record { kind = 0; fact = 64 }
numbers (Condition p) = record { kind = 1; fact = p }
numbers (Addition p) = record { kind = 2; fact = p }

-- what job i needs, adds and deletes
abbrev pub masks_of : Problem → ℕ → Masks
masks_of P i = record { conditions = P.conditions i; additions = P.additions i; deletions = P.deletions i }

-- why jobs i and j clash
abbrev pub clash_in : Problem → (i j : ℕ) → Clash
clash_in P i j = clash_of (masks_of P i) (masks_of P j)

-- two different jobs interfere where their clash is not none
unfoldable pub interfere : Problem → (i j : ℕ) → Bool
interfere P i j = not (eqb i j) && not (eqb (numbers (clash_in P i j)).kind 0)
