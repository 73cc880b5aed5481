use Rattle.cells.specs.View.{Prunes}
use Rattle.crowds.specs.Heaps.{Heaped}
use Rattle.crowds.proofs.beside_all.Given as goal

abbrev pub invariant-loop-k : goal.invariant-loop-k
invariant-loop-k l = Prunes (Heaped l.t l.initial.s l.w l.h) l.initial.s l.s
