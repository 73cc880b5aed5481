use mathlib.Core.Path.{◌≡◌}
use Prim.Native.Nat.{◌-◌, ◌≤◌}
use lib.ListN.{length}
use Rattle.rules.specs.Premises.{InOrder}
use Rattle.tables.specs.declared.Ask.{Ask}
use Rattle.tables.specs.Tables.{problem}
use Rattle.reach.specs.Rows.{PairRound}
use Rattle.reach.proofs.round.Given as goal

abbrev pub invariant-loop-i : goal.invariant-loop-i
invariant-loop-i l = (l.i ≤ l.n) × ((length l.t.rows ≡ 64) × ((q : Ask) → InOrder (problem l.l q) → l.n ≤ q.jobs → PairRound (problem l.l q) l.i l.initial.t.rows l.t.rows))

abbrev pub decreases-loop-i : goal.decreases-loop-i
decreases-loop-i l = l.n - l.i
