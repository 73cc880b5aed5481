use Rattle.tables.specs.Tables.{problem}
use Rattle.reach.proofs.Rounds.{Kept, missing}
use Rattle.reach.proofs.reachable.Given as goal

abbrev pub invariant-loop-l : goal.invariant-loop-l
invariant-loop-l l = Kept (problem l.l l.q) l.s.rows

abbrev pub decreases-loop-l : goal.decreases-loop-l
decreases-loop-l l = missing l.s.rows
