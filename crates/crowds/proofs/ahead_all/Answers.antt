use native.Mathlib.Omega.{arith}
use Rattle.facts.proofs.Walks.{over_next, over_here}
use Rattle.cells.proofs.Changes.{says_then, says_as}
use Rattle.crowds.proofs.ahead_all.Goals as goal

pub loop-a-preserved-then-a-lt24 : goal.loop-a-preserved-then-a-lt24
loop-a-preserved-then-a-lt24 c =
    let i = c.loop-a.invariant in
    let s = c.in-Some.ensures.steps in
    (over_next i.0 s.2, says_then i.1 (says_as c.put_sure.ensures (λ P Q f y. y _ (over_here i.0 (λ z. omega arith) s.1))))
