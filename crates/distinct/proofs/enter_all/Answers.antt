use native.Mathlib.Omega.{arith}
use Rattle.facts.proofs.Walks.{over_next, over_here}
use Rattle.cells.proofs.Changes.{follows, says}
use Rattle.distinct.proofs.Laws.{must_more}
use Rattle.distinct.proofs.enter_all.Goals as goal

pub loop-a-preserved-then-a-lt24 : goal.loop-a-preserved-then-a-lt24
loop-a-preserved-then-a-lt24 c =
    let i = c.loop-a.invariant in
    let a = c.args in
    let s = c.in-Some.ensures.steps in
    (over_next i.0 s.2, follows i.1 (must_more a.s.now c.loop-a.s a.w) (says c.put_inside.ensures (λ P wf x. x _ (over_here i.0 (λ z. omega arith) s.1) c.if-a-lt24.true)))
