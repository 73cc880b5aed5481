use Rattle.cells.specs.View.{Prunes}
use Rattle.lent.specs.Lent.{Lent}
use Rattle.orders.proofs.pairs_at.Given as goal

abbrev pub invariant-loop-a : goal.invariant-loop-a
invariant-loop-a l = Prunes (Lent l.t) l.initial.s l.s
