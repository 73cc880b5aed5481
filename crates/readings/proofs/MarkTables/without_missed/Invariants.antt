-- `readings::MarkTables::without_missed` meets its contract: the marks passed have cleared the facts that they miss. Assumes nothing.
use mathlib.Core.Bool.{not, ◌&&◌}
use Rattle.facts.specs.Facts.{has}
use Rattle.facts.specs.Words.{Word}
use Rattle.facts.specs.Least.{any}
use Rattle.readings.specs.Marks.{missed}
use Rattle.readings.specs.Lent.{marks_in}
use Rattle.readings.proofs.MarkTables.without_missed.Given as goal

abbrev pub invariant-loop-i : goal.invariant-loop-i
invariant-loop-i l = Word (λ p. has l.w p && not (any (λ k. missed l.fn.tenths.temperature l.fn.tenths.humidity p ((marks_in l.fn.self).mark k)) l.i)) l.left
