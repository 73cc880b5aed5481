use Rattle.facts.specs.Facts.{has}
use Rattle.tables.specs.Tables.{problem}
use Rattle.entries.specs.Entries.{entry}
use Rattle.lateness.specs.Steps.{LastOf}
use Rattle.lateness.proofs.last_finish.Given as goal

abbrev pub invariant-loop-j : goal.invariant-loop-j
invariant-loop-j l = LastOf (problem l.l l.q) (has l.q.set) (entry l.z) l.j l.last
