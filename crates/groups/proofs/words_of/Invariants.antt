use Prim.Native.Nat.{◌-◌, ◌≤◌}
use Rattle.states.specs.State.{Search}
use Rattle.lent.specs.Lent.{Lent}
use Rattle.groups.specs.OneOf.{AllOneIn}
use Rattle.groups.proofs.words_of.Given as goal

abbrev pub invariant-loop-b : goal.invariant-loop-b
invariant-loop-b l = (l.b ≤ 25) × ((P : Search) → Lent l.t P → AllOneIn P l.s l.g.words 24)

abbrev pub decreases-loop-b : goal.decreases-loop-b
decreases-loop-b l = 25 - l.b
