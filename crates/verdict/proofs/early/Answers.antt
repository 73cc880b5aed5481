use Rattle.rules.specs.Plans.{in_plan}
use Rattle.rules.specs.Verdicts.{early}
use Rattle.verdict.proofs.early.Goals as goal

pub returns : goal.returns
unfolding early in_plan
returns c = c.starts_early.ensures
