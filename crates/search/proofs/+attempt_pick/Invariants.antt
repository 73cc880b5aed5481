-- A repair leaves fewer jobs and pairs undecided; picking a flaw between two repairs leaves as many.
use Prim.Native.Nat.{◌+◌, ◌*◌}
use Rattle.states.specs.Count.{undecided}
use Rattle.cells.specs.View.{view}
use Rattle.search.proofs.+attempt_pick.Given as goal

abbrev pub decreases-attempt : goal.decreases-attempt
decreases-attempt l = undecided (view l.s.now) * 2

abbrev pub decreases-pick : goal.decreases-pick
decreases-pick l = undecided (view l.s.now) * 2 + 1
