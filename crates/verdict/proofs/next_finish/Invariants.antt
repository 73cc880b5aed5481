use Prim.Native.Nat.{ℕ, ◌-◌, ◌+◌, ◌≤◌, ◌<◌}
use lib.Dec.{T}
use lib.ListN.{get_or}
use Rattle.tables.specs.Tables.{job_at}
use Rattle.verdict.specs.Steps.{start_in}
use Rattle.verdict.proofs.next_finish.Given as goal

abbrev pub invariant-loop-i : goal.invariant-loop-i
invariant-loop-i l = (l.i ≤ l.n) × (l.best ≤ l.till) × (l.from < l.best) × ((k : ℕ) → k < l.i → T (start_in (get_or l.s k 0)) → l.from < get_or l.s k 0 + (job_at l.l k).duration → get_or l.s k 0 + (job_at l.l k).duration < l.best → ⊥)

abbrev pub decreases-loop-i : goal.decreases-loop-i
decreases-loop-i l = l.n - l.i
