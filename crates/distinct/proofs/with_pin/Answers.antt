use Rattle.std.proofs.Common.{rules}
use native.Mathlib.Omega.{arith}
use Rattle.distinct.proofs.Laws.{pin_more}
use Rattle.distinct.proofs.with_pin.Goals as goal

pub returns : goal.returns
returns c = rw c.killers.ensures (pin_more c.args.w (omega arith) (rw c.adders.ensures at (c.within.ensures.yea (search rules))))
