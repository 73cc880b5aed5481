use Rattle.cells.specs.View.{Blank}
use mathlib.Core.Path.{◌≡◌}
use lib.ListN.{length}
use Prim.Native.Nat.{◌-◌, ◌≤◌}
use Rattle.cells.proofs.blank.Given as goal

abbrev pub invariant-loop-j : goal.invariant-loop-j
invariant-loop-j l = (l.j ≤ 24) × (length l.s ≡ 100) × Blank l.s l.j

abbrev pub decreases-loop-j : goal.decreases-loop-j
decreases-loop-j l = 24 - l.j
