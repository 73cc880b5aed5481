use Rattle.entries.proofs.Laws.{cond_taken, cond_left}
use Rattle.times.proofs.begin_at.Goals as goal

pub returns-then-has : goal.returns-then-has
returns-then-has c = cond_taken _ c.has.ensures c.if-has.true

pub returns-else-has : goal.returns-else-has
returns-else-has c = cond_left _ c.has.ensures c.if-has.false
