-- How 01 read a job file, when records had no release and there was one rule: the last six bytes of a record were zeros, and the atom count had no mark.
-- Assumes nothing.
use Rattle.std.specs.Prelude.{Bool, not, List, ℕ, ◌+◌, ◌*◌, min, eqb, ltb, length, get_or}
use Rattle.facts.specs.Least.{any}
use Rattle.refusals.specs.Refusals.{Verdict, accepted, refuse_if}
use Rattle.rules.specs.Table.{Problem, table_checks, bound_check}
use Rattle.tables.specs.declared.Action.{Action}
use Rattle.tables.specs.declared.Loaded.{Loaded}
use Rattle.tables.specs.declared.Ask.{Ask}
use Rattle.tables.specs.Tables.{tabled, problem}
use Rattle.bytes_le.specs.Little.{number}
use Rattle.jobfile.specs.declared.Read.{Read}
use Rattle.jobfile.specs.Format.{trailer_at, trailer_in, ask_in, distance_in, too_far, records_in}
use Rattle.jobfile.specs.Calls.{handed}

-- one of the six bytes of record i is not zero
unfoldable pub spoilt01 : List ℕ → ℕ → Bool
spoilt01 rs i = any (λ j. not (eqb (get_or rs (32 * i + 26 + j) 0) 0)) 6

-- record i, which has no release
abbrev pub action01 : List ℕ → ℕ → Action
action01 rs i = record {
  conditions = number 8 rs (32 * i);
  additions = number 8 rs (32 * i + 8);
  deletions = number 8 rs (32 * i + 16);
  duration = number 2 rs (32 * i + 24);
  release = 0;
}

-- the table of the first 24 records
abbrev pub table01 : List ℕ → (room : ℕ) → Loaded
table01 file room = tabled (action01 (records_in file)) (min (ask_in (trailer_in file)).jobs 24) room

-- the problem: the whole byte is the atom count, and there is no gap
abbrev pub problem01 : Loaded → Ask → Problem
problem01 l q = record {
  count = (problem l q).count;
  conditions = (problem l q).conditions;
  additions = (problem l q).additions;
  deletions = (problem l q).deletions;
  duration = (problem l q).duration;
  release = (problem l q).release;
  gap = 0;
  atoms = q.atoms;
  opening = (problem l q).opening;
  goals = (problem l q).goals;
}

-- the checks of a table before there was a mark: check 20 takes every job without a release
abbrev pub table_checks01 : Loaded → Ask → Verdict
table_checks01 l q = refuse_if (ltb l.lent q.jobs) 3 0 (table_checks (problem01 l q) (bound_check q.bound accepted))

-- the checks of the reader
unfoldable pub read_checks01 : List ℕ → (room : ℕ) → Verdict
read_checks01 file room =
    refuse_if (ltb 65536 (length file)) 1 0
    (refuse_if (ltb (length file) 24) 2 0
    (refuse_if (too_far (distance_in (trailer_in file)) (ask_in (trailer_in file)).jobs (trailer_at file)) 2 0
    (refuse_if (any (spoilt01 (records_in file)) (ask_in (trailer_in file)).jobs) 2 0
    (table_checks01 (table01 file room) (ask_in (trailer_in file))))))

-- what the reader returned
abbrev pub reading01 : List ℕ → (room : ℕ) → Read
reading01 file room = handed (read_checks01 file room) (ask_in (trailer_in file)) (table01 file room)
