use mathlib.Core.Path.{◌≡◌}
use Prim.Native.Nat.{ℕ, ◌-◌, ◌≤◌}
use Rattle.facts.specs.Facts.{has}
use Rattle.rules.specs.Plans.{starts, finishes}
use Rattle.tables.specs.Tables.{problem}
use Rattle.tables.specs.declared.Ask.{Ask}
use Rattle.verdict.proofs.after_finishes.Given as goal

abbrev pub invariant-loop-i : goal.invariant-loop-i
invariant-loop-i l = (l.i ≤ l.n) × ((q : Ask) (p : ℕ) → has l.state p ≡ finishes (problem l.l q) (starts l.s) p l.t l.i (has l.before p))

abbrev pub decreases-loop-i : goal.decreases-loop-i
decreases-loop-i l = l.n - l.i
