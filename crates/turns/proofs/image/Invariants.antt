use Rattle.turns.proofs.Laws.{Walked}
use Rattle.turns.proofs.image.Given as goal

abbrev pub invariant-loop-p : goal.invariant-loop-p
invariant-loop-p l = Walked l.fact l.w l.r l.p-iterator.left
