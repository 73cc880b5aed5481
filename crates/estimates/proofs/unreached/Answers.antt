use Rattle.estimates.proofs.Laws.{opening_costs}
use Rattle.estimates.proofs.unreached.Goals as goal

pub returns : goal.returns
returns c = opening_costs c.args.opening _ _ c.lower.ensures
