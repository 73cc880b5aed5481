use Rattle.facts.proofs.Walks.{Done}
use Rattle.prune.proofs.Laws.{Ends}
use Rattle.prune.proofs.least_of.Given as goal

abbrev pub invariant-loop-a : goal.invariant-loop-a
invariant-loop-a l = Done (Ends l.s l.t l.b l.m) l.w l.a-iterator.left
