-- What the steps of an edit promise.
-- Assumes nothing.
use Rattle.std.specs.Prelude.{◌≡◌, ◌&&◌, ℕ, ◌<◌, ltb, set}
use Rattle.readings.specs.Opening.{word_of}
use Rattle.rules.specs.Clashes.{interfere}
use Rattle.tables.specs.declared.Action.{Action}
use Rattle.tables.specs.declared.Answer.{Answer}
use Rattle.tables.specs.declared.Loaded.{Loaded}
use Rattle.tables.specs.declared.Ask.{Ask}
use Rattle.tables.specs.Tables.{no_job, record_at, problem, answer_of}
use Rattle.opentable.specs.declared.OpenTable.{OpenTable}
use Rattle.opentable.specs.Open.{places, moved_from, open_checks}

-- the jobs with which job k clashes, as bits, whatever is asked
abbrev pub Clashing : Loaded → (k : ℕ) → ℕ → Type 0
Clashing l k w = (q : Ask) → w ≡ word_of (λ j. ltb j l.lent && interfere (problem l q) k j) 32

-- the jobs without job k; as many records are lent
abbrev pub moved_jobs : Loaded → (k : ℕ) → Loaded
moved_jobs l k = record { jobs = places no_job (λ i. record_at l.jobs (moved_from k i)); lent = l.lent }

-- the table with another record at place k, and so many jobs
abbrev pub with_record : OpenTable → (k : ℕ) → Action → (count : ℕ) → OpenTable
with_record t k a count = record { atoms = t.atoms; count = count; jobs = set t.jobs k a; rows = t.rows }

-- r refuses every table of so many atoms with more than 24 jobs
pub record Overfull (atoms : ℕ) (r : Answer) : Type 0 where
  pub says : (t : OpenTable) → t.atoms ≡ atoms → 24 < t.count → r ≡ answer_of (open_checks t) 0 0
  pub refuses : r.number ≡ 0 → ⊥
