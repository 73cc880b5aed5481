use Rattle.facts.proofs.Walks.{done_all}
use Rattle.leaves.proofs.violated.Goals as goal

pub returns : goal.returns
returns c b a v = done_all c.loop-b.invariant c.in-None.ensures.steps b v.there a v
