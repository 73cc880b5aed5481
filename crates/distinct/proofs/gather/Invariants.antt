use Rattle.states.specs.State.{Search}
use Rattle.lent.specs.Lent.{Lent}
use Rattle.distinct.specs.Rivals.{Banded}
use Rattle.distinct.proofs.gather.Given as goal

abbrev pub invariant-loop-j : goal.invariant-loop-j
invariant-loop-j l = (P : Search) → Lent l.t P → Banded P l.s l.p l.b
