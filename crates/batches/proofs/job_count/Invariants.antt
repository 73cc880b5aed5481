use mathlib.Core.Path.{◌≡◌}
use Rattle.batches.specs.Batches.{first_job}
use Rattle.batches.proofs.job_count.Given as goal

abbrev pub invariant-loop-group : goal.invariant-loop-group
invariant-loop-group l = l.jobs ≡ first_job l.groups l.group-index
