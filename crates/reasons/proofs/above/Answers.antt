use Rattle.facts.proofs.Bools.{and_first, and_next}
use mathlib.Core.Path.{refl}
use Rattle.reasons.proofs.above.Goals as goal

pub returns-then-has : goal.returns-then-has
returns-then-has c = and_next c.has.ensures c.if-has.true refl

pub returns-else-has : goal.returns-else-has
returns-else-has c = and_first _ c.has.ensures c.if-has.false
