use Rattle.facts.proofs.Walks.{Done}
use Rattle.cells.specs.View.{word_at, ins}
use Rattle.leaves.specs.Leaf.{RowSteady}
use Rattle.leaves.proofs.violated.Given as goal

abbrev pub invariant-loop-b : goal.invariant-loop-b
invariant-loop-b l = Done (RowSteady l.s l.t) (word_at l.s ins) l.b-iterator.left
