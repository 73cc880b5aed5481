use Rattle.facts.proofs.Walks.{done_all}
use Rattle.prune.proofs.least_of.Goals as goal

pub returns : goal.returns
returns c a l h = done_all c.loop-a.invariant c.in-None.ensures.steps a h l
