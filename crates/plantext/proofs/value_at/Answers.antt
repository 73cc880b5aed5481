use Rattle.plantext.specs.Form.{is_digit}
use Rattle.plantext.proofs.Laws.{value_is}
use Rattle.plantext.proofs.value_at.Goals as goal

pub returns : goal.returns
returns c = let a = c.args in value_is a.text.now a.at (c.letters_from.ensures.count is_digit (λ x l b h. h)) c.value_of.ensures
