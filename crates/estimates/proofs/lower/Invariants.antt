use Rattle.estimates.proofs.Walked.{Lowering}
use Rattle.estimates.proofs.lower.Given as goal

abbrev pub invariant-loop-p : goal.invariant-loop-p
invariant-loop-p l = Lowering l.w l.c l.cheaper l.initial.costs l.costs l.all l.p-iterator.left
