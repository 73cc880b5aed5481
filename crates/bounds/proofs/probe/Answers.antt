use Rattle.bounds.proofs.Laws.{probes_up}
use native.Mathlib.Omega.{arith}
use Rattle.bounds.proofs.probe.Goals as goal

pub returns-then-hopeless : goal.returns-then-hopeless
returns-then-hopeless c = probes_up c.hopeless.ensures c.if-hopeless.true (omega arith) (omega arith)
