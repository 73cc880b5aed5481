use Rattle.jobs.proofs.Laws.{one_bit}
use native.Mathlib.Omega.{arith}
use Rattle.jobs.proofs.single.Goals as goal

pub returns-then-a-lt24 : goal.returns-then-a-lt24
returns-then-a-lt24 c = one_bit c.rest.ensures (omega (arith, c.if-rest-ne0.false)) c.lowest-a.ensures (omega arith)
