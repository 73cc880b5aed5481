use mathlib.Core.Path.{refl}
use Rattle.plantext.specs.Form.{is_zero}
use Rattle.plantext.proofs.is_zero.Goals as goal

pub returns : goal.returns
unfolding is_zero
returns c = refl
