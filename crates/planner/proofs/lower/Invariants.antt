use Rattle.planner.specs.Planner.{LowerOk}
use Rattle.lent.specs.Lent.{Lent}
use Rattle.leaves.specs.Leaf.{plan_of}
use Rattle.planner.proofs.lower.Given as goal

abbrev pub invariant-loop : goal.invariant-loop
invariant-loop l = LowerOk (Lent l.t) l.base l.k l.out

abbrev pub decreases-loop : goal.decreases-loop
decreases-loop l = plan_of l.out l.k
