use mathlib.Core.Path.{◌≡◌}
use lib.ListN.{replicate}
use Rattle.tables.specs.Tables.{no_job, filled}
use Rattle.jobfile.specs.Format.{action_in}
use Rattle.jobfile_read.proofs.first_records.Given as goal

abbrev pub invariant-loop-i : goal.invariant-loop-i
invariant-loop-i l = l.jobs ≡ filled (action_in l.records) l.i (replicate 24 no_job)
