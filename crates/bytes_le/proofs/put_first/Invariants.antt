use Prim.Native.Nat.{◌/◌, ◌^◌}
use mathlib.Core.Path.{◌≡◌}
use Rattle.bytes_le.specs.Little.{little, at_front}
use Rattle.bytes_le.proofs.put_first.Given as goal

abbrev pub invariant-loop-byte : goal.invariant-loop-byte
invariant-loop-byte l = (l.left ≡ l.value / 256 ^ l.byte-index) × (l.byte-items ≡ at_front (little l.byte-index l.value) l.initial.byte-items)
