use Rattle.facts.proofs.Bools.{and_first, and_next}
use Rattle.plantext.specs.Form.{in_form}
use Rattle.plantext.proofs.in_form.Goals as goal

pub returns-then-start_form : goal.returns-then-start_form
unfolding in_form
returns-then-start_form c = and_next c.start_form.ensures c.if-start_form.true c.duration_form.ensures

pub returns-else-start_form : goal.returns-else-start_form
unfolding in_form
returns-else-start_form c = and_first _ c.start_form.ensures c.if-start_form.false
