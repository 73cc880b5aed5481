use native.Mathlib.Omega.{arith}
use Rattle.jobs.proofs.Laws.{lack_found, lack_none}
use Rattle.jobs.proofs.lack.Goals as goal

pub returns-then-d-lt24 : goal.returns-then-d-lt24
returns-then-d-lt24 c = lack_found _ _ _ c.outside.ensures c.lowest-d.ensures (omega arith)

pub returns-else-d-lt24 : goal.returns-else-d-lt24
returns-else-d-lt24 c = lack_none _ _ _ c.outside.ensures (omega (arith, c.lowest-d.ensures))
