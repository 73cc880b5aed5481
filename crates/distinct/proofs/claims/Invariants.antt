use Rattle.cells.specs.View.{Prunes}
use Rattle.lent.specs.Lent.{Lent}
use Rattle.distinct.proofs.claims.Given as goal

abbrev pub invariant-loop-i : goal.invariant-loop-i
invariant-loop-i l = Prunes (Lent l.t) l.initial.s l.s
