use Rattle.std.proofs.Common.{rules}
use Rattle.rules.specs.Table.{between}
use Rattle.plantext.proofs.from_to.Goals as goal

pub returns : goal.returns
unfolding between
returns c = search rules
