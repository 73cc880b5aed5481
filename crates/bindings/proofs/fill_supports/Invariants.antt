use mathlib.Core.Path.{◌≡◌}
use Prim.Native.Nat.{◌*◌, ◌-◌, ◌≤◌}
use Rattle.rules.specs.Plans.{starts}
use Rattle.rules.specs.Supports.{support_byte}
use Rattle.tables.specs.Tables.{problem, filled}
use Rattle.bindings.proofs.fill_supports.Given as goal

abbrev pub invariant-loop-b : goal.invariant-loop-b
invariant-loop-b l = (l.b ≤ l.b-end) × (l.out ≡ filled (support_byte (problem l.l l.q) l.q.bound (starts l.s)) (64 * l.b) l.initial.out)

abbrev pub decreases-loop-b : goal.decreases-loop-b
decreases-loop-b l = l.b-end - l.b
