-- Turns: jobs and facts change places, and the problem is what it was.
-- Assumes nothing.
use Rattle.std.specs.Prelude.{◌≡◌, ℕ, ◌<◌}
use Rattle.facts.specs.Facts.{has}
use Rattle.rules.specs.Table.{Problem}
use Rattle.rules.specs.Plans.{Plan}

-- job `to j` has of fact `fact p` what job j has of p, and takes as long; the opening facts and the goals stay
pub record Turn (P : Problem) (to back fact : ℕ → ℕ) : Type 0 where
  pub below : (j : ℕ) → j < P.count → to j < P.count
  pub from : (j : ℕ) → j < P.count → back j < P.count
  pub forth : (j : ℕ) → j < P.count → to (back j) ≡ j
  pub again : (j : ℕ) → j < P.count → back (to j) ≡ j
  pub conditions : (j p : ℕ) → j < P.count → p < 64 → has (P.conditions (to j)) (fact p) ≡ has (P.conditions j) p
  pub additions : (j p : ℕ) → j < P.count → p < 64 → has (P.additions (to j)) (fact p) ≡ has (P.additions j) p
  pub deletions : (j p : ℕ) → j < P.count → p < 64 → has (P.deletions (to j)) (fact p) ≡ has (P.deletions j) p
  pub duration : (j : ℕ) → j < P.count → P.duration (to j) ≡ P.duration j
  pub release : (j : ℕ) → j < P.count → P.release (to j) ≡ P.release j
  pub opening : (p : ℕ) → p < 64 → has P.opening (fact p) ≡ has P.opening p
  pub goals : (p : ℕ) → p < 64 → has P.goals (fact p) ≡ has P.goals p

-- the plan in which each job starts as its turn did
abbrev pub turned : Plan → (ℕ → ℕ) → Plan
turned Q to j = Q (to j)

-- m is the lowest job that is moved
pub record Moves (P : Problem) (to : ℕ → ℕ) (m : ℕ) : Type 0 where
  pub below : m < P.count
  pub still : (j : ℕ) → j < m → to j ≡ j
