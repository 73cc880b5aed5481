use mathlib.Core.Path.{◌≡◌, refl}
use native.Mathlib.Omega.{arith}
use Rattle.facts.specs.Facts.{has}
use Rattle.rules.specs.Plans.{starts, in_plan, ends, finishes}
use Rattle.tables.specs.Tables.{problem}
use Rattle.verdict.proofs.Steps.{finishes_more}
use Rattle.verdict.proofs.after_finishes.Goals as goal

pub loop-i-init : goal.loop-i-init
unfolding finishes
loop-i-init c = (omega arith, λ q p. refl)

pub loop-i-preserved : goal.loop-i-preserved
unfolding in_plan ends
loop-i-preserved c = (omega arith, λ q p. finishes_more (problem c.args.l q) (starts c.args.s.now) p c.args.t c.loop-i.i (has c.args.before p) (c.after_job-state.ensures p) c.ends_at-ends.ensures (c.loop-i.invariant.1 q p))

pub returns : goal.returns
returns c = let e : c.loop-i.i ≡ c.args.q.jobs = omega arith in λ p. rw e at (c.loop-i.invariant.1 c.args.q p)
