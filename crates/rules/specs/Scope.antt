-- When a plan of 01 is valid, in 01's four sentences: there no job has a release and there is no gap.
-- Assumes nothing.
use Rattle.std.specs.Prelude.{◌⊎◌, ℕ, ◌≤◌, T}
use Rattle.facts.specs.Facts.{has}
use Rattle.rules.specs.Table.{Problem, needs}
use Rattle.rules.specs.Clashes.{interfere}
use Rattle.rules.specs.Plans.{Plan, In, finish, holds}

-- each start plus duration is at most the bound; interfering jobs that are both in do not overlap; at its start each job in the plan finds all its
-- conditions; at the bound, after all finishes, the goals hold
pub record Valid01 (P : Problem) (bound : ℕ) (s : Plan) : Type 0 where
  pub inside : (i : ℕ) → In P s i → finish P s i ≤ bound
  pub apart : (i j : ℕ) → In P s i → In P s j → T (interfere P i j) → (finish P s i ≤ s j) ⊎ (finish P s j ≤ s i)
  pub ready : (i p : ℕ) → In P s i → needs P i p → T (holds P s p (s i))
  pub reached : (p : ℕ) → T (has P.goals p) → T (holds P s p bound)
