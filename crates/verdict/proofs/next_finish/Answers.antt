use native.Mathlib.Omega.{arith}
use borrow.Author.Count.{below_more}
use Rattle.rules.specs.Plans.{in_plan}
use Rattle.verdict.proofs.next_finish.Goals as goal

pub loop-i-init : goal.loop-i-init
loop-i-init c = (omega arith, omega arith, omega arith, λ k h. absurd (omega arith))

pub loop-i-preserved : goal.loop-i-preserved
loop-i-preserved c = (omega arith, omega (arith, c.nearer-best.ensures.least), c.nearer-best.ensures.later c.loop-i.invariant.2, below_more _ _ (λ k h x y z. c.loop-i.invariant.3 k h x y (omega (arith, c.nearer-best.ensures.least))) c.nearer-best.ensures.free)

pub returns : goal.returns
unfolding in_plan
returns c = record { least = c.loop-i.invariant.1; later = c.loop-i.invariant.2; free = λ i k a b. c.loop-i.invariant.3 i (omega (arith, k.below)) k.chosen a b }
