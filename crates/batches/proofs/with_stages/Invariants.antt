use mathlib.Core.Path.{◌≡◌}
use Prim.Native.Nat.{◌+◌}
use Rattle.batches.specs.Batches.{jobs_up_to}
use Rattle.batches.specs.Steps.{SomeStages}
use Rattle.batches.proofs.with_stages.Given as goal

abbrev pub invariant-loop-i : goal.invariant-loop-i
invariant-loop-i l = (l.n ≡ l.at + jobs_up_to l.stages l.i) × SomeStages l.initial.t l.stages l.i l.at l.first l.t
