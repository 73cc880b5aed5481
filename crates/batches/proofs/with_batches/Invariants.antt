use Rattle.batches.specs.Steps.{Drafted}
use Rattle.batches.proofs.with_batches.Given as goal

abbrev pub invariant-loop-group : goal.invariant-loop-group
invariant-loop-group l = Drafted l.groups l.group-index l.d
