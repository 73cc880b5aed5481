use native.Mathlib.Omega.{arith}
use Rattle.facts.proofs.Walks.{over_lt}
use Rattle.estimates.proofs.Walked.{lowering_none, lowering_next, lowering_all}
use Rattle.estimates.proofs.lower.Goals as goal

pub loop-p-init : goal.loop-p-init
loop-p-init c = let a = c.args in rw c.into_iter-p-iterator.ensures.into_iter_gives (rw c.each-p-items.ensures (lowering_none a.w a.c a.cheaper a.costs.now c.ranges.w.fits))

pub lower_one-all-requires : goal.lower_one-all-requires
lower_one-all-requires c = let s = c.in-Some.ensures.steps in over_lt c.loop-p.invariant.over (λ z. omega (arith, s.0)) s.1

pub loop-p-preserved : goal.loop-p-preserved
loop-p-preserved c =
    let a = c.args in
    let l = c.loop-p in
    let s = c.in-Some.ensures.steps in
    lowering_next a.w a.c a.cheaper a.costs.now l.costs l.all _ l.invariant _ _ _ _ (λ z. omega (arith, s.0)) s.1 c.lower_one-all.ensures s.2

pub returns : goal.returns
returns c =
    let a = c.args in
    let l = c.loop-p in
    lowering_all a.w a.c a.cheaper a.costs.now l.costs l.all _ l.invariant c.in-None.ensures.steps
