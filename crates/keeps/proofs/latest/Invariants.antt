use Prim.Native.Nat.{◌≤◌, ◌<◌}
use Rattle.facts.proofs.Walks.{Done}
use Rattle.cells.specs.View.{view}
use Rattle.keeps.proofs.latest.Given as goal

abbrev pub invariant-loop-a : goal.invariant-loop-a
invariant-loop-a l = Done (λ a. a < 24 → (view l.s).hi a ≤ l.x) l.group l.a-iterator.left
