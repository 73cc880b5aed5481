use Rattle.leaves.specs.Leaf.{BegunBy, room}
use Rattle.leaves.proofs.settle.Given as goal

abbrev pub invariant-loop-c : goal.invariant-loop-c
invariant-loop-c l = BegunBy l.t l.initial.s l.s 24

abbrev pub decreases-loop-c : goal.decreases-loop-c
decreases-loop-c l = room l.s
