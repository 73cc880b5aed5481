use Rattle.lines.specs.Lays.{Lays}
use Rattle.lines.specs.Lines.{starting_at}
use Rattle.page.specs.Page.{plan_line}
use Rattle.tables.specs.Tables.{problem}
use Rattle.rules.specs.Pairs.{joined}
use Rattle.rules.specs.Plans.{starts}
use lib.ListN.{length}
use Prim.Native.Nat.{◌-◌, ◌*◌, ◌≤◌}
use mathlib.Core.Path.{◌≡◌}
use Rattle.page.proofs.put_jobs.Given as goal

abbrev pub invariant-loop-t : goal.invariant-loop-t
invariant-loop-t l = (l.t ≤ l.n) × (length l.out ≡ length l.initial.out) × Lays (18 * l.q.jobs) (joined (starting_at (plan_line (problem l.l l.q) (starts l.s)) (starts l.s) l.q.jobs) l.t) l.at l.initial.out l.out l.next

abbrev pub decreases-loop-t : goal.decreases-loop-t
decreases-loop-t l = l.n - l.t
