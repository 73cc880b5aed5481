use Rattle.facts.proofs.Walks.{Done}
use lib.Dec.{T}
use Rattle.facts.specs.Facts.{has}
use Rattle.states.specs.State.{Search}
use Rattle.lent.specs.Lent.{Lent, wants_of}
use Rattle.lent.specs.Consumers.{SomeSafe}
use Rattle.flaws.specs.Flaw.{Picks, OneLost}
use Rattle.flaws.proofs.conditions.Given as goal

abbrev pub invariant-loop-p : goal.invariant-loop-p
invariant-loop-p l = (P : Search) → Lent l.t P → Picks l.s (Done (λ p. T (has (wants_of l.t l.b) p) → SomeSafe P l.s p l.b) (wants_of l.t l.b) l.p-iterator.left) (OneLost P l.s l.b (wants_of l.t l.b)) l.best.choice
