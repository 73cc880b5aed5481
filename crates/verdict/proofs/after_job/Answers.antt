use mathlib.Core.Path.{refl}
use Rattle.rules.specs.Plans.{after_if}
use Rattle.verdict.proofs.after_job.Goals as goal

pub returns-then-now : goal.returns-then-now
unfolding after_if
returns-then-now c = rw c.if-now.true c.after.ensures

pub returns : goal.returns
unfolding after_if
returns c = rw c.if-now.false (λ p. refl)
