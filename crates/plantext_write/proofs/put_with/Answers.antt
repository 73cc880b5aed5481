use native.Mathlib.Omega.{arith}
use Rattle.lines.proofs.Fits.{decimal_some}
use Rattle.lines.proofs.Laws.{lays_then, lays_fit}
use Rattle.plantext_write.proofs.put_with.Goals as goal

pub put_number-next-requires : goal.put_number-next-requires
put_number-next-requires c = let a = c.args in omega (arith, decimal_some a.n)

pub put_word-requires : goal.put_word-requires
put_word-requires c = omega (arith, c.put_number-next.ensures.next)

pub returns : goal.returns
returns c = lays_fit (lays_then (omega arith) c.put_number-next.ensures c.put_word.ensures) (omega arith)
