use Rattle.facts.proofs.Walks.{Done}
use Rattle.states.specs.State.{Search, Dead}
use Rattle.cells.specs.View.{view, word_at, ins}
use Rattle.lent.specs.Lent.{Lent}
use Rattle.flaws.specs.Flaw.{Picks, RowOrdered}
use Rattle.flaws.proofs.mutexes.Given as goal

abbrev pub invariant-loop-a : goal.invariant-loop-a
invariant-loop-a l = (P : Search) → Lent l.t P → Picks l.s (Done (RowOrdered l.s l.t) (word_at l.s ins) l.a-iterator.left) (Dead P (view l.s)) l.best.choice
