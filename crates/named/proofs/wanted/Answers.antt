use mathlib.Core.Path.{refl}
use borrow.Author.Tests.{eq-eqb, ne_eqb}
use Rattle.rules.specs.Plans.{in_plan}
use Rattle.named.proofs.Tests.{no_fact}
use Rattle.rules.specs.Supports.{whose_row}
use Rattle.named.proofs.wanted.Goals as goal

pub returns-then-b-q : goal.returns-then-b-q
unfolding whose_row
returns-then-b-q c = simp (eq-eqb _ _ c.if-b-q.true) (λ p. refl)

pub returns-then-s-b : goal.returns-then-s-b
unfolding whose_row in_plan
returns-then-s-b c = simp (ne_eqb _ _ c.if-b-q.false, eq-eqb _ _ c.if-s-b.true) no_fact

pub returns : goal.returns
unfolding whose_row in_plan
returns c = simp (ne_eqb _ _ c.if-b-q.false, ne_eqb _ _ c.if-s-b.false) (λ p. refl)
