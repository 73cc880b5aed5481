use Rattle.plantext.specs.Form.{in_name}
use Rattle.plantext.proofs.Laws.{name_length_is}
use Rattle.plantext.proofs.name_length.Goals as goal

pub returns : goal.returns
returns c = let a = c.args in (name_length_is a.text.now a.at c.name_at.ensures.0 (c.letters_from.ensures.count in_name (λ x l b h. h)), c.letters_from.ensures.few)
