-- The open job table: its present jobs, the rows of clash bits by the interference rule, and what each edit says and leaves.
-- Assumes nothing.
use Rattle.std.specs.Prelude.{◌≡◌, Bool, ◌&&◌, ◌||◌, cond, List, ℕ, suc, ◌+◌, ◌-◌, eqb, leb, ltb, get_or, set, replicate}
use Rattle.facts.specs.Facts.{has}
use Rattle.readings.specs.Opening.{word_of}
use Rattle.refusals.specs.Refusals.{Verdict, accepted, refuse_if}
use Rattle.rules.specs.Table.{Problem, table_checks}
use Rattle.rules.specs.Clashes.{interfere}
use Rattle.tables.specs.declared.Action.{Action}
use Rattle.tables.specs.declared.Loaded.{Loaded}
use Rattle.tables.specs.declared.Ask.{Ask}
use Rattle.tables.specs.declared.Answer.{Answer}
use Rattle.tables.specs.Tables.{no_job, record_at, problem, answer_of, filled}
use Rattle.opentable.specs.declared.OpenTable.{OpenTable}
use Rattle.opentable.specs.declared.Wanted.{Wanted}
use Rattle.opentable.specs.declared.Replacement.{Replacement}
use Rattle.opentable.specs.declared.Edited.{Edited}

-- the jobs of the table, one record lent for each
abbrev pub jobs_of : OpenTable → Loaded
jobs_of t = record { jobs = t.jobs; lent = t.count }

-- the numbers of a call on the table
abbrev pub ask_of : OpenTable → Wanted → Ask
ask_of t w = record { jobs = t.count; atoms = t.atoms; opening = w.opening; goals = w.goals; bound = w.bound; set = 0; pairs = 0 }

-- the problem of the present jobs; the table has no opening facts and no goals
abbrev pub present : OpenTable → Problem
present t = problem (jobs_of t) (ask_of t (record { opening = 0; goals = 0; bound = 0 }))

-- a list of 24, place by place
abbrev pub places : {A : Type 0} (none : A) → (ℕ → A) → List A
places none f = filled f 24 (replicate 24 none)

-- 24 rows of 32 bits: bit j of row i is b i j
abbrev pub bit_rows : (ℕ → ℕ → Bool) → List ℕ
bit_rows b = places 0 (λ i. word_of (b i) 32)

-- bit j of the row that the table keeps for job i
abbrev pub kept_bit : OpenTable → (i j : ℕ) → Bool
kept_bit t i j = has (get_or t.rows i 0) j

-- what that bit is by the rule: both jobs are there and interfere
unfoldable pub clash_bit : Problem → (i j : ℕ) → Bool
clash_bit P i j = ltb i P.count && (ltb j P.count && interfere P i j)

-- the table without jobs
abbrev pub empty_of : (atoms : ℕ) → OpenTable
empty_of atoms = record { atoms = atoms; count = 0; jobs = replicate 24 no_job; rows = replicate 24 0 }

-- the table with one job more, whose number is the job count; no row is touched yet
abbrev pub enlarged : OpenTable → Action → OpenTable
enlarged t a = record { atoms = t.atoms; count = t.count + 1; jobs = set t.jobs t.count a; rows = t.rows }

-- the table with another job k; no row is touched yet
abbrev pub exchanged : OpenTable → (k : ℕ) → Action → OpenTable
exchanged t k a = record { atoms = t.atoms; count = t.count; jobs = set t.jobs k a; rows = t.rows }

-- the table with the bits of job k worked out anew, in its row and in its column; every other bit as it is
unfoldable pub reclashed : OpenTable → (k : ℕ) → OpenTable
reclashed t k = record {
  atoms = t.atoms;
  count = t.count;
  jobs = t.jobs;
  rows = bit_rows (λ i j. cond (eqb i k || eqb j k) (clash_bit (present t) i j) (kept_bit t i j));
}

-- where what comes to place i stood before job k went: the later ones move down by one
abbrev pub moved_from : (k i : ℕ) → ℕ
moved_from k i = cond (ltb i k) i (suc i)

-- the table without job k: later jobs, rows and columns move down by one, and the last place is empty
unfoldable pub without_job : OpenTable → (k : ℕ) → OpenTable
without_job t k = record {
  atoms = t.atoms;
  count = t.count - 1;
  jobs = places no_job (λ i. record_at t.jobs (moved_from k i));
  rows = bit_rows (λ i j. kept_bit t (moved_from k i) (moved_from k j));
}

-- what an edit says and leaves: accepted, a number and the table after it; refused, the table as it was, every field
abbrev pub edited : Verdict → (value : ℕ) → (new old : OpenTable) → Edited
edited v value new old = record { answer = answer_of v value 0; table = cond (eqb v.number 0) new old }

-- checks 4 to 8 and 20 of the table that has the jobs to be checked
abbrev pub open_checks : OpenTable → Verdict
open_checks t = table_checks (present t) accepted

-- 22 for an edit of a job that is not there, before them
abbrev pub edit_checks : OpenTable → (k : ℕ) → OpenTable → Verdict
edit_checks t k u = refuse_if (leb t.count k) 22 k (open_checks u)

-- a table is begun, without jobs: of its checks 4 alone can refuse
abbrev pub beginning : OpenTable → (atoms : ℕ) → Edited
beginning t atoms = edited (open_checks (empty_of atoms)) 0 (empty_of atoms) t

-- a job is added; its number is returned
abbrev pub adding : OpenTable → Action → Edited
adding t a = edited (open_checks (enlarged t a)) t.count (reclashed (enlarged t a) t.count) t

-- a job is replaced
abbrev pub replacing : OpenTable → Replacement → Edited
replacing t r = edited (edit_checks t r.job (exchanged t r.job r.record)) 0 (reclashed (exchanged t r.job r.record) r.job) t

-- a job is removed
abbrev pub removing : OpenTable → (k : ℕ) → Edited
removing t k = edited (edit_checks t k t) 0 (without_job t k) t

-- what a lent table and the answer are after an edit
pub record Leaves (e : Edited) (new : OpenTable) (r : Answer) : Type 0 where
  pub table : new ≡ e.table
  pub answer : r ≡ e.answer
