use Prim.Native.Nat.{◌+◌, ◌-◌, ◌*◌, ◌≤◌}
use mathlib.Core.Path.{◌≡◌}
use Rattle.tables.specs.Tables.{job_at}
use Rattle.rules.specs.Sums.{sum}
use Rattle.planning.proofs.all_durations.Given as goal

abbrev pub invariant-loop-j : goal.invariant-loop-j
invariant-loop-j l = (l.j ≤ l.n) × (l.all ≡ l.from + sum (λ a. (job_at l.l a).duration + l.gap) l.j) × (l.all ≤ 65535 * (2 * l.j + 1))

abbrev pub decreases-loop-j : goal.decreases-loop-j
decreases-loop-j l = l.n - l.j
