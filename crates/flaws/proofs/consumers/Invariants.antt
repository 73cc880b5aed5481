use Rattle.states.specs.State.{Search, Dead}
use Rattle.cells.specs.View.{view}
use Rattle.lent.specs.Lent.{Lent}
use Rattle.flaws.specs.Flaw.{Picks, SafeBelow}
use Rattle.flaws.proofs.consumers.Given as goal

abbrev pub invariant-loop-b : goal.invariant-loop-b
invariant-loop-b l = (P : Search) → Lent l.t P → Picks l.s (SafeBelow P l.s l.b) (Dead P (view l.s)) l.best.choice
