use Rattle.bounds.specs.Bounds.{LastEnd}
use Rattle.rules.specs.Table.{Problem}
use Rattle.lent.specs.Lent.{Listed}
use Rattle.leaves.specs.Leaf.{plan_of}
use Rattle.bounds.proofs.last_end.Given as goal

abbrev pub invariant-loop-j : goal.invariant-loop-j
invariant-loop-j l = (P : Problem) → Listed l.t P → LastEnd P (plan_of l.out) l.j l.end
