use mathlib.Core.Path.{◌∙◌}
use borrow.Author.Tests.{le-ltb}
use Rattle.settle.proofs.Tests.{none_high}
use Rattle.settle.proofs.in_set.Goals as goal

pub returns-else-j-lt64 : goal.returns-else-j-lt64
returns-else-j-lt64 c = le-ltb _ _ c.if-j-lt64.false ∙ none_high c.args.set c.args.j c.ranges.set.fits c.if-j-lt64.false
