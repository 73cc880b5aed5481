use mathlib.Core.Path.{◌∙◌}
use Rattle.rules.specs.Plans.{starts, holds}
use Rattle.rules.specs.Verdicts.{missing}
use Rattle.tables.specs.Tables.{problem}
use Rattle.verdict.proofs.Steps.{lacking_same}
use Rattle.verdict.proofs.first_missing.Goals as goal

pub returns : goal.returns
unfolding missing
returns c = c.first_lacking.ensures ∙ lacking_same (λ p. holds (problem c.args.l c.args.q) (starts c.args.s.now) p c.args.q.bound) c.args.q.goals _ c.facts_at.ensures
