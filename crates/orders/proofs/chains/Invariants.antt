use Rattle.cells.specs.View.{Prunes, Always}
use Rattle.orders.proofs.chains.Given as goal

abbrev pub invariant-loop-b : goal.invariant-loop-b
invariant-loop-b l = Prunes Always l.initial.s l.s
