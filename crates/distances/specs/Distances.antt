-- What the contracts of the distances between jobs cite.
-- Assumes nothing.
use Rattle.std.specs.Prelude.{◌≡◌, List, ℕ, ◌+◌, ◌≤◌, ◌<◌, T}
use Rattle.facts.specs.Facts.{has}
use Rattle.rules.specs.Table.{Problem}
use Rattle.rules.specs.Premises.{deletes}
use Rattle.tables.specs.declared.Action.{Action}
use Rattle.tables.specs.declared.Loaded.{Loaded}
use Rattle.tables.specs.Tables.{job_at}
use Rattle.entries.specs.Entries.{entry}

-- the problem from the finish of a job on: the word holds the facts that may be there; releases are times of day, so none is kept
abbrev pub since : Problem → (word : ℕ) → Problem
since P w = record {
  count = P.count;
  conditions = P.conditions;
  additions = P.additions;
  deletions = P.deletions;
  duration = P.duration;
  release = λ i. 0;
  gap = P.gap;
  atoms = P.atoms;
  opening = w;
  goals = P.goals;
}

-- the job without its release
abbrev pub unreleased : Action → Action
unreleased a = record { conditions = a.conditions; additions = a.additions; deletions = a.deletions; duration = a.duration; release = 0 }

-- k has the jobs of l without their releases
abbrev pub Frees : (l k : Loaded) → Type 0
Frees l k = (i : ℕ) → job_at k i ≡ unreleased (job_at l i)

-- the word has every fact below 64 that job i does not delete
abbrev pub SparedFacts : Problem → (i word : ℕ) → Type 0
SparedFacts P i w = (p : ℕ) → p < 64 → (deletes P i p → ⊥) → T (has w p)

-- r has every fact below 64 that w lacks
abbrev pub Complement : (w r : ℕ) → Type 0
Complement w r = (p : ℕ) → p < 64 → (T (has w p) → ⊥) → T (has r p)

-- the row is no more than a duration, the gap and each estimate, at 24 no more than the duration and the end
pub record RowWithin (dur gap : ℕ) (est : List ℕ) (end : ℕ) (row : List ℕ) : Type 0 where
  pub jobs : (b : ℕ) → b < 24 → entry row b ≤ dur + gap + entry est b
  pub last : entry row 24 ≤ dur + end
