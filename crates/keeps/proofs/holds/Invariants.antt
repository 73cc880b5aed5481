use Prim.Native.Nat.{◌<◌}
use Rattle.facts.proofs.Walks.{Done}
use Rattle.keeps.specs.Keeps.{AllKeptOff}
use Rattle.keeps.proofs.holds.Given as goal

abbrev pub invariant-loop-a : goal.invariant-loop-a
invariant-loop-a l = Done (λ a. a < 24 → AllKeptOff l.s l.t l.others a l.x) l.group l.a-iterator.left
