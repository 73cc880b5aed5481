use Rattle.cells.specs.View.{Prunes}
use Rattle.lent.specs.Lent.{Lent}
use Rattle.prune.proofs.tighten.Given as goal

abbrev pub invariant-loop : goal.invariant-loop
invariant-loop l = Prunes (Lent l.t) l.initial.s l.s
