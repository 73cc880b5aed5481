use Rattle.facts.proofs.Walks.{Over}
use Rattle.cells.specs.View.{Prunes}
use Rattle.lent.specs.Lent.{wants_of, Lent}
use Rattle.prune.proofs.consumer.Given as goal

abbrev pub invariant-loop-p : goal.invariant-loop-p
invariant-loop-p l = Over 64 (wants_of l.t l.b) l.p-iterator.left × Prunes (Lent l.t) l.initial.s l.s
