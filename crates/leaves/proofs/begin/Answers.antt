use Rattle.leaves.proofs.Laws.{begins_at}
use Rattle.leaves.proofs.begin.Goals as goal

pub returns-then-lo-x : goal.returns-then-lo-x
returns-then-lo-x c = begins_at c.est-x.ensures c.put_lo.ensures
