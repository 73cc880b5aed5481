use Rattle.cells.specs.View.{Says}
use Rattle.outset.specs.Outset.{ListedPlan}
use Prim.Native.Nat.{◌-◌, ◌≤◌}
use Rattle.outset.proofs.root.Given as goal

abbrev pub invariant-loop-j : goal.invariant-loop-j
invariant-loop-j l = (l.j ≤ 24) × Says (ListedPlan l.t) l.initial.s l.s

abbrev pub decreases-loop-j : goal.decreases-loop-j
decreases-loop-j l = 24 - l.j
