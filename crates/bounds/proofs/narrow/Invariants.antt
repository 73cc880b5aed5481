use Rattle.bounds.specs.Bounds.{SameLists, Bracketed}
use Prim.Native.Nat.{◌-◌, ◌≤◌}
use Rattle.bounds.proofs.narrow.Given as goal

abbrev pub invariant-loop-low : goal.invariant-loop-low
invariant-loop-low l = SameLists l.initial.t l.t × Bracketed l.initial.t l.low l.high l.out × (l.high ≤ l.top)

abbrev pub decreases-loop-low : goal.decreases-loop-low
decreases-loop-low l = l.high - l.low
