use mathlib.Core.Path.{◌≡◌}
use Prim.Native.Nat.{◌-◌, ◌+◌, ◌^◌, ◌≤◌, ◌<◌}
use Rattle.bytes_le.specs.Little.{number}
use Rattle.bytes_le.proofs.number.Given as goal

abbrev pub invariant-loop-place : goal.invariant-loop-place
invariant-loop-place l = (l.at ≤ l.place) × (l.value ≡ number (l.at + l.size - l.place) l.bytes l.place) × (l.value < 256 ^ (l.at + l.size - l.place))
