use Rattle.cells.specs.View.{Prunes}
use Rattle.lent.specs.Lent.{Lent}
use Rattle.leads.proofs.all_led.Given as goal

abbrev pub invariant-loop-m : goal.invariant-loop-m
invariant-loop-m l = Prunes (Lent l.t) l.initial.s l.s
