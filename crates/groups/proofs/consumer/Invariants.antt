use Rattle.groups.specs.OneOf.{Grows}
use Rattle.groups.proofs.consumer.Given as goal

abbrev pub invariant-loop-p : goal.invariant-loop-p
invariant-loop-p l = Grows l.s l.t l.initial.x l.x
