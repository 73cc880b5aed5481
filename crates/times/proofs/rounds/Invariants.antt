use mathlib.Core.Path.{◌≡◌}
use Prim.Native.Nat.{◌-◌}
use lib.ListN.{length}
use Rattle.rules.specs.Sums.{sum}
use Rattle.entries.specs.Entries.{entry}
use Rattle.times.specs.Steps.{Pushed}
use Rattle.times.proofs.rounds.Given as goal

abbrev pub invariant-loop-next : goal.invariant-loop-next
invariant-loop-next l = (length l.s ≡ 24) × Pushed l.l l.q l.pairs (entry l.initial.s) (entry l.s)

abbrev pub decreases-loop-next : goal.decreases-loop-next
decreases-loop-next l = sum (λ j. l.q.bound - entry l.s j) l.q.jobs
