use Rattle.std.proofs.Common.{rules}
use Rattle.rules.specs.Table.{between}
use Rattle.plantext.specs.Form.{is_digit}
use Rattle.plantext.proofs.is_digit.Goals as goal

pub returns : goal.returns
unfolding is_digit between
returns c = search rules
