use Rattle.cells.specs.View.{Prunes, Always}
use Rattle.orders.proofs.through_all.Given as goal

abbrev pub invariant-loop-m : goal.invariant-loop-m
invariant-loop-m l = Prunes Always l.initial.s l.s
