use Rattle.facts.proofs.Walks.{over_next, over_here, over_lt}
use Rattle.cells.proofs.Changes.{then}
use native.Mathlib.Omega.{arith}
use Rattle.prune.proofs.consumer.Goals as goal

pub support-requires : goal.support-requires
support-requires c = let s = c.in-Some.ensures.steps in (c.requires, over_lt c.loop-p.invariant.0 (λ e. omega arith) s.1)

pub loop-p-preserved : goal.loop-p-preserved
loop-p-preserved c =
    let i = c.loop-p.invariant in
    let s = c.in-Some.ensures.steps in
    (over_next i.0 s.2, then i.1 (c.support.ensures (over_here i.0 (λ e. omega arith) s.1)))
