use Rattle.leaves.specs.Leaf.{BegunBy}
use Rattle.leaves.proofs.begin_all.Given as goal

abbrev pub invariant-loop-j : goal.invariant-loop-j
invariant-loop-j l = BegunBy l.t l.initial.s l.s l.j
