use Prim.Native.Nat.{◌<◌, ◌^◌}
use Rattle.turns.proofs.swap_words.Given as goal

abbrev pub invariant-loop-x : goal.invariant-loop-x
invariant-loop-x l = (l.theirs.left < 2 ^ 64) × (l.x-iterator.left < 2 ^ 64)
