use Rattle.planner.proofs.Laws.{fixed}
use Rattle.planner.proofs.fix.Goals as goal

pub returns : goal.returns
returns c = fixed c.put_inside.ensures c.put_lo.ensures c.put_hi.ensures
