use Rattle.estimates.proofs.Walked.{Climbing}
use Rattle.estimates.proofs.greatest.Given as goal

abbrev pub invariant-loop-p : goal.invariant-loop-p
invariant-loop-p l = Climbing l.w l.costs l.most l.p-iterator.left
