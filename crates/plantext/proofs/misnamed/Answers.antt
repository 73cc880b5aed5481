use mathlib.Core.Path.{◌∙◌}
use borrow.Author.Tests.{eq-eqb}
use Rattle.plantext.proofs.Laws.{misnamed_empty, misnamed_rest}
use Rattle.plantext.proofs.misnamed.Goals as goal

pub returns-then-size-eq0 : goal.returns-then-size-eq0
returns-then-size-eq0 c = let a = c.args in eq-eqb _ _ c.if-size-eq0.true ∙ misnamed_empty a.names.now a.j c.name_size-size.ensures.0 c.if-size-eq0.true

pub returns-else-size-eq0 : goal.returns-else-size-eq0
returns-else-size-eq0 c = let a = c.args in misnamed_rest a.names.now a.j c.name_size-size.ensures.0 c.if-size-eq0.false c.is_named.ensures
