use Prim.Native.Nat.{ℕ, ◌≤◌, ◌<◌}
use lib.ListN.{get_or}
use Rattle.plantext_write.proofs.next_start.Given as goal

abbrev pub invariant-loop-j : goal.invariant-loop-j
invariant-loop-j l = (l.best ≤ l.till) × (l.from ≤ l.best) × ((k : ℕ) → k < l.j → l.from ≤ get_or l.s k 0 → get_or l.s k 0 < l.best → ⊥)
