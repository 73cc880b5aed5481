-- What the contracts of planning within a bound cite.
-- Assumes nothing.
use Rattle.std.specs.Prelude.{◌≡◌, Bool, true, false, List, ℕ, ◌≤◌, ◌<◌, length, Option, MatchOption}
use Rattle.rules.specs.Table.{Problem}
use Rattle.rules.specs.Premises.{InOrder}
use Rattle.rules.specs.Order.{First, LeastBound, NoPlan}
use Rattle.tables.specs.Tables.{problem}
use Rattle.tables.specs.Steps.{Released}
use Rattle.tables.specs.declared.Loaded.{Loaded}
use Rattle.tables.specs.declared.Ask.{Ask}
use Rattle.lent.specs.Lent.{Listed}
use Rattle.leaves.specs.Leaf.{plan_of}

-- a table in order, and a bound that is no mark
pub record InReach (l : Loaded) (q : Ask) (bound : ℕ) : Type 0 where
  pub few : q.jobs ≤ 24
  pub order : InOrder (problem l q)
  pub released : Released l q
  pub short : bound < 65535

-- the first plan, or that there is none
pub record PlanAt (P : Problem) (bound : ℕ) (starts : List ℕ) (found : Bool) : Type 0 where
  pub first : found ≡ true → First P bound (plan_of starts)
  pub size : found ≡ true → length starts ≡ 24
  pub none : found ≡ false → NoPlan P bound

-- the starts are the first plan within the bound
pub record FirstAt (L : List ℕ) (bound : ℕ) (starts : List ℕ) : Type 0 where
  pub first : (P : Problem) → Listed L P → First P bound (plan_of starts)
  pub size : length starts ≡ 24

-- the bound b is the least up to top, and the starts are the first plan at it
pub record LeastAt (P : Problem) (top : ℕ) (starts : List ℕ) (b : ℕ) : Type 0 where
  pub found : LeastBound P top b (plan_of starts)
  pub size : length starts ≡ 24

-- the bound that was found is that one; or none was, and there is no plan
abbrev pub LeastOf : Problem → (top : ℕ) → List ℕ → Option ℕ → Type 0
LeastOf P top starts found = MatchOption found (NoPlan P top) (LeastAt P top starts)
