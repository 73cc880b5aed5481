use Rattle.facts.proofs.Sets.{lowest_fact}
use lib.Count.{trailing_le}
use native.Mathlib.Omega.{arith}
use Rattle.jobs.proofs.lowest.Goals as goal

pub overflow_cast-result : goal.overflow_cast-result
overflow_cast-result c = omega (arith, trailing_le 32 c.args.w)

pub returns : goal.returns
returns c = lowest_fact 32 c.args.w
