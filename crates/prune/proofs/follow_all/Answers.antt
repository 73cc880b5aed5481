use Rattle.facts.proofs.Walks.{over_next, over_here}
use Rattle.cells.proofs.Changes.{follows}
use native.Mathlib.Omega.{arith}
use Rattle.prune.proofs.Laws.{begun_more}
use Rattle.prune.proofs.follow_all.Goals as goal

pub loop-d-preserved : goal.loop-d-preserved
loop-d-preserved c =
    let i = c.loop-d.invariant in
    let s = c.in-Some.ensures.steps in
    (over_next i.0 s.2, follows i.1 begun_more (c.follow.ensures _ (over_here i.0 (λ e. omega arith) s.1)))
