use native.Mathlib.Omega.{arith}
use Rattle.cells.proofs.Changes.{says}
use Rattle.crowds.proofs.Laws.{stands_last}
use Rattle.crowds.proofs.last.Goals as goal

pub returns-then-h-low : goal.returns-then-h-low
returns-then-h-low c = says c.put_sures.ensures (λ P wf x. stands_last c.requires.0 c.step.ensures x {low = c.from-low.result} (omega arith) (omega (arith, c.lo.ensures)) (omega (arith, c.if-h-low.true)))
