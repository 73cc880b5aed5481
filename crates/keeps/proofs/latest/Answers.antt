use Rattle.facts.proofs.Walks.{done_all}
use Rattle.keeps.proofs.latest.Goals as goal

pub returns : goal.returns
returns c a h l = done_all c.loop-a.invariant c.in-None.ensures.steps a h l
