use native.Mathlib.Omega.{arith}
use Rattle.leaves.proofs.Laws.{raise_more}
use Rattle.leaves.proofs.raise.Goals as goal

pub returns : goal.returns
returns c = raise_more c.requires c.put_lo.ensures (omega (arith, c.sum-x.ensures.0)) (omega arith)
