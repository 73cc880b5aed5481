use Rattle.search.proofs.Laws.{takes_job, takes_pair}
use Rattle.search.proofs.taken.Goals as goal

pub returns-in-Job : goal.returns-in-Job
returns-in-Job c = rw c.in-Job.is (takes_job (rw c.in-Job.is at c.requires) c.put_inside.ensures)

pub returns-in-Pair : goal.returns-in-Pair
returns-in-Pair c = rw c.in-Pair.is (takes_pair (rw c.in-Pair.is at c.requires) c.put_inside-in-Pair.ensures c.put_sure.ensures)
