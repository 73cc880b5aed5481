use native.Mathlib.Omega.{arith}
use Rattle.plantext.specs.Form.{is_zero}
use Rattle.plantext.proofs.Laws.{ends_zeros}
use Rattle.plantext.proofs.zeros_end.Goals as goal

pub returns : goal.returns
returns c = let a = c.args in (ends_zeros a.text.now a.at (c.letters_from.ensures.count is_zero (λ x l b h. h)), omega (arith, c.letters_from.ensures.few))
