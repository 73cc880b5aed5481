use mathlib.Core.Path.{◌≡◌}
use Prim.Native.Nat.{◌-◌, ◌≤◌}
use Rattle.tables.specs.Tables.{problem}
use Rattle.tables.specs.declared.Ask.{Ask}
use Rattle.entries.specs.Entries.{entry}
use Rattle.estimates.specs.Rounds.{lagging, Costs, Cheaper}
use Rattle.estimates.proofs.lower_all.Given as goal

abbrev pub invariant-loop-i : goal.invariant-loop-i
invariant-loop-i l = (l.i ≤ l.n) × ((q : Ask) → q.jobs ≡ l.n → Costs (lagging (problem l.l q) (entry l.est) l.lag) l.initial.costs 64 → Cheaper (problem l.l q) (entry l.next) (entry l.est) l.lag l.i l.initial.costs l.costs l.cheaper)

abbrev pub decreases-loop-i : goal.decreases-loop-i
decreases-loop-i l = l.n - l.i
