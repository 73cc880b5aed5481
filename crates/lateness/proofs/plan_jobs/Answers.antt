use Rattle.std.proofs.Common.{rules}
use Rattle.rules.specs.Plans.{starts, in_plan}
use Rattle.lateness.proofs.plan_jobs.Goals as goal

pub returns : goal.returns
unfolding in_plan
returns c = c.those.ensures.word (in_plan (starts c.args.s.now)) (λ i l b h. search rules)
