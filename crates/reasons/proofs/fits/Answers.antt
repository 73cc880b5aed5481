use mathlib.Core.Path.{refl, ◌∙◌}
use borrow.Author.Tests.{ne_eqb}
use Rattle.facts.proofs.Bools.{and_first}
use Rattle.reasons.proofs.Laws.{sum_test}
use Rattle.reasons.proofs.fits.Goals as goal

pub returns-then-b-j : goal.returns-then-b-j
returns-then-b-j c = let a = c.args in c.follows.ensures ∙ sum_test a.b a.j c.if-b-j.true refl refl refl c.gap.ensures

pub returns-else-b-j : goal.returns-else-b-j
returns-else-b-j c = and_first _ refl (ne_eqb _ _ c.if-b-j.false)
