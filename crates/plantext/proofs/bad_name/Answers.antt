use Rattle.facts.proofs.Bools.{or_first, or_next}
use Rattle.plantext.proofs.bad_name.Goals as goal

pub returns-then-misnamed : goal.returns-then-misnamed
returns-then-misnamed c = or_first _ c.misnamed.ensures c.if-misnamed.true

pub returns-else-misnamed : goal.returns-else-misnamed
returns-else-misnamed c = or_next c.misnamed.ensures c.if-misnamed.false c.shares_name.ensures
