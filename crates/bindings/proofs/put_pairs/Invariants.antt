use mathlib.Core.Path.{◌≡◌}
use lib.ListN.{length}
use Rattle.rules.specs.Pairs.{joined}
use Rattle.rules.specs.Plans.{starts}
use Rattle.tables.specs.Tables.{problem}
use Rattle.bindings.specs.Steps.{pair_row, Appends}
use Rattle.bindings.proofs.put_pairs.Given as goal

abbrev pub invariant-loop-a : goal.invariant-loop-a
invariant-loop-a l = (length l.out ≡ length l.initial.out) × Appends (joined (λ x. pair_row (problem l.l l.q) (starts l.s) x l.q.jobs) l.a) 0 l.initial.out l.out l.next
