use mathlib.Core.Path.{◌≡◌}
use lib.ListN.{length}
use Rattle.entries.specs.Entries.{entry}
use Rattle.times.specs.Steps.{Pushed, Behind}
use Rattle.times.proofs.round.Given as goal

abbrev pub invariant-loop-k : goal.invariant-loop-k
invariant-loop-k l = (length l.s ≡ 24) × Pushed l.l l.q l.pairs (entry l.initial.s) (entry l.s) × Behind l.l l.q l.pairs (entry l.initial.s) (entry l.s) l.k
