use Rattle.std.proofs.Common.{rules}
use Rattle.rules.specs.Plans.{starts}
use Rattle.rules.specs.Verdicts.{overlap_above}
use Rattle.tables.specs.Tables.{problem}
use Rattle.verdict.proofs.first_above.Goals as goal

pub returns : goal.returns
returns c = c.first.ensures (overlap_above (problem c.args.l c.args.q) (starts c.args.s.now) c.args.i) (λ j l b h. search rules)
