use mathlib.Core.Path.{◌≡◌}
use Prim.Native.Nat.{◌<◌, ◌^◌}
use Rattle.plantext.specs.Form.{value_of}
use Rattle.plantext.proofs.value_of.Given as goal

abbrev pub invariant-loop-i : goal.invariant-loop-i
invariant-loop-i l = (l.value ≡ value_of l.text l.at l.i) × (l.value < 256 ^ l.i)
