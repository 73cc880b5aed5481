use Rattle.cells.specs.View.{Prunes}
use Rattle.crowds.specs.Heaps.{GroupsOf}
use Rattle.crowds.proofs.some_full.Given as goal

abbrev pub invariant-loop-i : goal.invariant-loop-i
invariant-loop-i l = Prunes (GroupsOf l.t l.initial.s l.g) l.initial.s l.s
