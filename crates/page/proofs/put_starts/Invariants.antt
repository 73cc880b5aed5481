use mathlib.Core.Path.{◌≡◌}
use Rattle.tables.specs.Tables.{job_at}
use Rattle.lines.specs.Lines.{text_if, job_line}
use Rattle.lines.specs.Lays.{Lays}
use Rattle.rules.specs.Pairs.{joined}
use Rattle.rules.specs.Plans.{starts}
use lib.ListN.{length}
use lib.Dec.{eqb}
use Prim.Native.Nat.{◌+◌, ◌-◌, ◌*◌, ◌≤◌}
use Rattle.page.proofs.put_starts.Given as goal

abbrev pub invariant-loop-j : goal.invariant-loop-j
invariant-loop-j l = (l.j ≤ l.n) × (length l.out ≡ length l.initial.out) × Lays (18 * l.j) (joined (λ i. text_if (eqb (starts l.s i) l.t) (job_line (starts l.s i) (starts l.s i + (job_at l.l i).duration) i)) l.j) l.at l.initial.out l.out l.next

abbrev pub decreases-loop-j : goal.decreases-loop-j
decreases-loop-j l = l.n - l.j
