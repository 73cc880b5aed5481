use Rattle.cells.specs.View.{Prunes}
use Rattle.crowds.specs.Heaps.{Trusted}
use Rattle.crowds.proofs.overfull.Given as goal

abbrev pub invariant-loop-i : goal.invariant-loop-i
invariant-loop-i l = Prunes (Trusted l.t l.initial.s l.c) l.initial.s l.s
