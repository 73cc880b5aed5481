use Rattle.plantext.specs.Form.{in_name}
use Rattle.plantext.proofs.Laws.{name_size_is}
use Rattle.plantext.proofs.name_size.Goals as goal

pub returns : goal.returns
returns c = let a = c.args in (name_size_is a.names.now a.j (c.letters_from.ensures.count in_name (λ x l b h. h)), c.letters_from.ensures.few)
