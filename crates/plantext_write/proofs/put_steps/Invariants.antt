use mathlib.Core.Path.{◌≡◌}
use Prim.Native.Nat.{◌-◌, ◌≤◌}
use lib.ListN.{length}
use Rattle.rules.specs.Pairs.{joined}
use Rattle.rules.specs.Plans.{starts}
use Rattle.tables.specs.Tables.{problem}
use Rattle.plantext_write.specs.Steps.{steps_at, PutsText}
use Rattle.plantext_write.proofs.put_steps.Given as goal

abbrev pub invariant-loop-t : goal.invariant-loop-t
invariant-loop-t l = (l.t ≤ l.till) × (length l.out ≡ length l.initial.out) × PutsText (joined (steps_at l.names (problem l.l l.q) (starts l.s)) l.t) 0 l.initial.out l.out l.next

abbrev pub decreases-loop-t : goal.decreases-loop-t
decreases-loop-t l = l.till - l.t
