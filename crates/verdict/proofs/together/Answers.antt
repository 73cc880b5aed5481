use Rattle.facts.proofs.Bools.{and_first, and_next}
use Rattle.verdict.proofs.together.Goals as goal

pub returns-then-ends_after : goal.returns-then-ends_after
returns-then-ends_after c = and_next c.ends_after.ensures c.if-ends_after.true c.ends_after-then-ends_after.ensures

pub returns-else-ends_after : goal.returns-else-ends_after
returns-else-ends_after c = and_first _ c.ends_after.ensures c.if-ends_after.false
