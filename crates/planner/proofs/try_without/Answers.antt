use Rattle.planner.proofs.Laws.{without_is}
use Rattle.planner.proofs.try_without.Goals as goal

pub returns : goal.returns
returns c = without_is c.put_barred.ensures c.find_plan.ensures
