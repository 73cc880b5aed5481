-- Reading a job file into the caller's lent records.
-- Assumes nothing.
use Rattle.std.specs.Prelude.{◌≡◌, List, ℕ, length}
use Rattle.jobfile.specs.declared.Read.{Read}
use Rattle.jobfile.specs.Calls.{reading}
use Rattle.tables.specs.declared.Action.{Action}
use Rattle.tables.specs.Tables.{job_at, filled}
use Rattle.nuzzlefleece.specs.declared.ReadAnswer.{ReadAnswer}

-- the answer and the numbers of what was read
abbrev pub told : Read → ReadAnswer
told r = record { answer = r.answer; ask = r.ask }

-- what the reader says of the file, and the lent records after it: the jobs of the file stand first, one a record, none on refusal; the rest is as it was
pub record Reads (file : List ℕ) (old new : List Action) (r : ReadAnswer) : Type 0 where
  pub says : r ≡ told (reading file (length old))
  pub records : new ≡ filled (job_at (reading file (length old)).table) (reading file (length old)).ask.jobs old
