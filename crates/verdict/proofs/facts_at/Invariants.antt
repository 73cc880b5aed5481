use Prim.Native.Nat.{◌-◌, ◌≤◌}
use Rattle.rules.specs.Plans.{starts}
use Rattle.tables.specs.Tables.{problem}
use Rattle.verdict.specs.Steps.{FactsAt}
use Rattle.verdict.proofs.facts_at.Given as goal

abbrev pub invariant-loop-next : goal.invariant-loop-next
invariant-loop-next l = (1 ≤ l.next) × (l.next ≤ l.till) × FactsAt (problem l.l l.q) (starts l.s) (l.next - 1) l.state

abbrev pub decreases-loop-next : goal.decreases-loop-next
decreases-loop-next l = l.till - l.next
