use Rattle.bounds.specs.Bounds.{SameLists, NoneBelow}
use Prim.Native.Nat.{◌-◌, ◌≤◌}
use Rattle.bounds.proofs.low_end.Given as goal

abbrev pub invariant-loop-low : goal.invariant-loop-low
invariant-loop-low l = SameLists l.initial.t l.t × NoneBelow l.initial.t l.low × (l.low ≤ l.high) × (l.high ≤ l.top)

abbrev pub decreases-loop-low : goal.decreases-loop-low
decreases-loop-low l = l.high - l.low
