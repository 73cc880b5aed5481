-- `readings::MarkTables::with_marked` meets its contract: the marks passed have set their facts. Assumes nothing.
use mathlib.Core.Bool.{◌||◌}
use Rattle.facts.specs.Facts.{has}
use Rattle.facts.specs.Words.{Word}
use Rattle.facts.specs.Least.{any}
use Rattle.readings.specs.Marks.{on}
use Rattle.readings.specs.Lent.{marks_in}
use Rattle.readings.proofs.MarkTables.with_marked.Given as goal

abbrev pub invariant-loop-i : goal.invariant-loop-i
invariant-loop-i l = Word (λ p. has l.given p || any (λ k. on p ((marks_in l.fn.self).mark k)) l.i) l.w
