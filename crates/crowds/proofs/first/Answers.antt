use native.Mathlib.Omega.{arith}
use Rattle.cells.proofs.Changes.{say}
use Rattle.crowds.proofs.Laws.{stands_first}
use Rattle.crowds.proofs.first.Goals as goal

pub returns-then-high-from : goal.returns-then-high-from
returns-then-high-from c =
    say c.ahead_all.ensures (λ P wf x. stands_first c.requires.0 c.step-n.ensures x {high = c.max-high.result} (omega arith) (omega (arith, c.sum.ensures.0, c.hi.ensures)) (omega (arith, c.if-high-from.true)))
