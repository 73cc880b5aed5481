use Rattle.planner.specs.Planner.{BeginsSo}
use Rattle.lent.specs.Lent.{Lent}
use Rattle.planner.proofs.first.Given as goal

abbrev pub invariant-loop-k : goal.invariant-loop-k
invariant-loop-k l = BeginsSo (Lent l.t) l.k l.root l.out
