use mathlib.Core.Path.{◌≡◌}
use Prim.Native.Nat.{◌-◌, ◌≤◌}
use Rattle.tables.specs.Tables.{problem}
use Rattle.tables.specs.declared.Ask.{Ask}
use Rattle.entries.specs.Entries.{entry}
use Rattle.estimates.specs.Rounds.{lagging, Costs, Rests}
use Rattle.estimates.proofs.Laws.{Going}
use Rattle.estimates.proofs.round.Given as goal

abbrev pub invariant-loop-i : goal.invariant-loop-i
invariant-loop-i l = (l.i ≤ l.n) × ((q : Ask) → q.jobs ≡ l.n → l.gap ≡ (problem l.l q).gap → Costs (lagging (problem l.l q) (entry l.initial.est) (problem l.l q).gap) l.initial.costs 64 → Rests (problem l.l q) (entry l.initial.est) l.cheaper → Going (problem l.l q) l.initial.est l.initial.costs l.i l.est l.costs l.new)

abbrev pub decreases-loop-i : goal.decreases-loop-i
decreases-loop-i l = l.n - l.i
