use native.Mathlib.Omega.{arith}
use Rattle.plantext.specs.Form.{is_digit}
use Rattle.plantext.proofs.Laws.{ends_digits}
use Rattle.plantext.proofs.digits_end.Goals as goal

pub returns : goal.returns
returns c = let a = c.args in (ends_digits a.text.now a.at (c.letters_from.ensures.count is_digit (λ x l b h. h)), omega (arith, c.letters_from.ensures.few))
