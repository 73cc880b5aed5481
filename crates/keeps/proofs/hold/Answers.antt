use Rattle.facts.proofs.Walks.{done_all}
use Rattle.keeps.proofs.hold.Goals as goal

pub returns : goal.returns
returns c = record { less = c.loop-b.invariant.0; kept = λ l b h i. done_all c.loop-b.invariant.1 c.in-None.ensures.steps b h i }
