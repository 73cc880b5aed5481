use mathlib.Core.Path.{◌≡◌}
use Prim.Native.Nat.{◌-◌, ◌≤◌}
use lib.ListN.{length, get_or}
use Rattle.tables.specs.Tables.{filled}
use Rattle.reasons.specs.Steps.{backwards}
use Rattle.reasons.proofs.fill_chain.Given as goal

abbrev pub invariant-loop-i : goal.invariant-loop-i
invariant-loop-i l = (l.i ≤ l.n) × (l.out ≡ filled (λ k. get_or (backwards l.c.jobs l.n) k 0) l.i l.initial.out) × (length l.out ≡ length l.initial.out)

abbrev pub decreases-loop-i : goal.decreases-loop-i
decreases-loop-i l = l.n - l.i
