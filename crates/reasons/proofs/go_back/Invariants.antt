use Prim.Native.Nat.{◌-◌, ◌<◌}
use Rattle.entries.specs.Entries.{entry}
use Rattle.reasons.proofs.Laws.{Going}
use Rattle.reasons.proofs.go_back.Given as goal

abbrev pub invariant-loop-j : goal.invariant-loop-j
invariant-loop-j l = (l.j < 24) × (l.count < 24) × Going l.l l.q l.pairs (entry l.z) l.job l.jobs l.count l.j

abbrev pub decreases-loop-j : goal.decreases-loop-j
decreases-loop-j l = 24 - l.count
