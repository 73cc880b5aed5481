use Rattle.bounds.specs.Bounds.{SameLists, NoneBelow}
use Prim.Native.Nat.{◌-◌, ◌≤◌}
use Rattle.bounds.proofs.rise.Given as goal

abbrev pub invariant-loop-t : goal.invariant-loop-t
invariant-loop-t l = SameLists l.initial.t l.t × NoneBelow l.initial.t l.from × (l.low ≤ l.at) × (l.at ≤ l.top)

abbrev pub decreases-loop-t : goal.decreases-loop-t
decreases-loop-t l = l.top - l.at
