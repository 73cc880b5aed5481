-- What the contracts of the search cite.
-- Assumes nothing.
use Rattle.std.specs.Prelude.{List, ℕ, ◌<◌}
use Rattle.rules.specs.Plans.{Plan}
use Rattle.states.specs.State.{Search, HasJob, Ahead, More, Fits}
use Rattle.states.specs.Count.{undecided}
use Rattle.cells.specs.View.{view, IsIn, IsOut}
use Rattle.flaws.specs.declared.Repair.{Repair}
use Rattle.flaws.specs.declared.Repair.TheVariants.{Job, Pair}

-- there is such a problem
abbrev pub Some : (Search → Type 0) → Type 0
Some Ok = (P : Search) × Ok P

-- what the first repair claims of a plan
abbrev pub FirstRepair : Repair → Search → Plan → Type 0
FirstRepair (Job x) P Q = IsIn x P Q
FirstRepair (Pair x y) P Q = HasJob P Q x × Ahead P Q x y

-- what the second repair claims of a plan
abbrev pub SecondRepair : Repair → Search → Plan → Type 0
SecondRepair (Job x) P Q = IsOut x P Q
SecondRepair (Pair x y) P Q = HasJob P Q x → Ahead P Q x y → ⊥

-- a repair: no plan of which R is so is lost, and there is less to decide
pub record Tries (R : Search → Plan → Type 0) (s r : List ℕ) : Type 0 where
  pub more : More (view s) (view r)
  pub fewer : undecided (view r) < undecided (view s)
  pub keep : (P : Search) (Q : Plan) → Fits P Q (view s) → R P Q → Fits P Q (view r)
