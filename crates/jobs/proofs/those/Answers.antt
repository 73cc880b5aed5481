use native.Mathlib.Omega.{arith}
use Rattle.facts.proofs.Sets.{below_pow}
use Rattle.jobs.proofs.those.Goals as goal

pub overflow_cast-result : goal.overflow_cast-result
overflow_cast-result g c = omega (arith, below_pow 32 c.those.result (λ p x. omega (arith, c.those.ensures.below p x, c.requires.few)))
