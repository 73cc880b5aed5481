use Prim.Native.Nat.{◌≤◌, ◌<◌}
use Rattle.facts.proofs.Walks.{Done}
use Rattle.keeps.specs.Keeps.{KeptOff}
use Rattle.keeps.proofs.hold.Given as goal

abbrev pub invariant-loop-b : goal.invariant-loop-b
invariant-loop-b l = (l.x ≤ l.m) × Done (λ b. b < 24 → KeptOff l.s l.t l.a l.x b) l.w l.b-iterator.left
