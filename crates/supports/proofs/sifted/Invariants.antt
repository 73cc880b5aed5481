use Rattle.supports.proofs.Laws.{Sifted}
use Rattle.supports.proofs.sifted.Given as goal

abbrev pub invariant-loop-j : goal.invariant-loop-j
invariant-loop-j g l = Sifted (goal.F-post g l.test) l.all l.j-iterator.left l.w
