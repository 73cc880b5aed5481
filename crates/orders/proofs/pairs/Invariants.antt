use Rattle.cells.specs.View.{Prunes}
use Rattle.lent.specs.Lent.{Lent}
use Rattle.orders.proofs.pairs.Given as goal

abbrev pub invariant-loop-b : goal.invariant-loop-b
invariant-loop-b l = Prunes (Lent l.t) l.initial.s l.s
