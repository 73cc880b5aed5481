use mathlib.Core.Path.{◌≡◌}
use lib.ListN.{length}
use Rattle.rules.specs.Plans.{starts}
use Rattle.tables.specs.Tables.{problem}
use Rattle.bindings.specs.Steps.{pair_row, Appends}
use Rattle.bindings.proofs.put_row.Given as goal

abbrev pub invariant-loop-b : goal.invariant-loop-b
invariant-loop-b l = (length l.out ≡ length l.initial.out) × Appends (pair_row (problem l.l l.q) (starts l.s) l.a l.b) l.at l.initial.out l.out l.next
