use Rattle.std.proofs.Common.{rules}
use Rattle.rules.specs.Estimates.{plus}
use Rattle.estimates.proofs.plus.Goals as goal

pub returns : goal.returns
unfolding plus
returns c = search rules
