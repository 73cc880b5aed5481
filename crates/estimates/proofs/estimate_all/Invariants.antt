use mathlib.Core.Path.{◌≡◌}
use mathlib.Core.Bool.{cond}
use Prim.Native.Nat.{◌+◌}
use lib.ListN.{length}
use Rattle.rules.specs.Sums.{sum}
use Rattle.tables.specs.Tables.{problem}
use Rattle.entries.specs.Entries.{entry}
use Rattle.estimates.specs.Rounds.{due}
use Rattle.estimates.proofs.Laws.{Standing}
use Rattle.estimates.proofs.estimate_all.Given as goal

abbrev pub invariant-loop-l : goal.invariant-loop-l
invariant-loop-l l = (length l.est ≡ 24) × Standing (problem l.l l.q) l.est l.costs l.cheaper

abbrev pub decreases-loop-l : goal.decreases-loop-l
decreases-loop-l l = sum (entry l.est) l.q.jobs + cond (due l.needed l.cheaper) 1 0
