use Rattle.search.proofs.Laws.{drops_job, drops_pair}
use Rattle.search.proofs.dropped.Goals as goal

pub returns-in-Job : goal.returns-in-Job
returns-in-Job c = rw c.in-Job.is (drops_job (rw c.in-Job.is at c.requires) c.put_barred.ensures)

pub returns-in-Pair : goal.returns-in-Pair
returns-in-Pair c = rw c.in-Pair.is (drops_pair (rw c.in-Pair.is at c.requires) c.put_never.ensures)
