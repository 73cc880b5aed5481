use mathlib.Core.Path.{◌∙◌}
use native.Mathlib.Nat.{add-zero}
use Rattle.rules.specs.Plans.{in_plan}
use Rattle.rules.specs.Verdicts.{late}
use Rattle.verdict.proofs.late.Goals as goal

pub returns : goal.returns
unfolding late in_plan
returns c = c.ends_after.ensures ∙ simp add-zero
