use mathlib.Core.Path.{◌∙◌}
use native.Mathlib.Omega.{arith}
use Rattle.plantext.proofs.Laws.{name_in, name_behind}
use Rattle.plantext.proofs.name_letter.Goals as goal

pub returns-then-i-size : goal.returns-then-i-size
returns-then-i-size c = let a = c.args in c.letter_at.ensures ∙ name_in a.text.now a.at a.size a.i c.if-i-size.true

pub returns-else-i-size : goal.returns-else-i-size
returns-else-i-size c = let a = c.args in name_behind a.text.now a.at a.size a.i (omega arith)
