use Rattle.lines.proofs.Laws.{lays_fit, lays_none, digit_none, digit_some}
use native.Mathlib.Omega.{arith}
use Rattle.lines.proofs.put_digit.Goals as goal

pub returns-then-n-unit : goal.returns-then-n-unit
returns-then-n-unit c = let a = c.args in rw (digit_none a.n a.unit c.if-n-unit.true) (lays_fit (lays_none a.at a.out.now) (omega arith))

pub returns : goal.returns
returns c = let a = c.args in rw (digit_some a.n a.unit (omega arith)) c.put_letter.ensures
