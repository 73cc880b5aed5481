use Rattle.facts.proofs.Walks.{Over}
use Rattle.cells.specs.View.{Says}
use Rattle.crowds.specs.Heaps.{AllAfter}
use Rattle.crowds.proofs.ahead_all.Given as goal

abbrev pub invariant-loop-a : goal.invariant-loop-a
invariant-loop-a l = Over 64 l.w l.a-iterator.left × Says (AllAfter l.w l.k) l.initial.s l.s
