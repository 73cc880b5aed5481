use native.Mathlib.Omega.{arith}
use Rattle.lines.proofs.Laws.{lays_one}
use Rattle.lines.proofs.put_letter.Goals as goal

pub returns : goal.returns
returns c = lays_one _ _ _ (omega arith)
