use mathlib.Core.Path.{ap, ◌∙◌}
use Rattle.std.specs.Prelude.{is_some}
use Rattle.rules.specs.Verdicts.{clashes}
use Rattle.verdict.proofs.Steps.{some_first}
use Rattle.verdict.proofs.clashes.Goals as goal

pub returns : goal.returns
unfolding clashes
returns c = c.is_some.ensures ∙ ap is_some c.first_above.ensures ∙ some_first _ _
