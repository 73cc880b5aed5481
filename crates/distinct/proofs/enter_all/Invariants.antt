use Rattle.facts.proofs.Walks.{Over}
use Rattle.cells.specs.View.{Prunes}
use Rattle.distinct.specs.Rivals.{AllMust}
use Rattle.distinct.proofs.enter_all.Given as goal

abbrev pub invariant-loop-a : goal.invariant-loop-a
invariant-loop-a l = Over 64 l.w l.a-iterator.left × Prunes (AllMust l.initial.s l.w) l.initial.s l.s
