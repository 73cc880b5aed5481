use Rattle.search.proofs.Laws.{ans_pruned}
use Rattle.search.proofs.find_plan.Goals as goal

pub returns : goal.returns
returns c = ans_pruned c.pruned-alive.ensures.prunes c.pick.ensures
