use native.Mathlib.Omega.{arith}
use Rattle.facts.proofs.Walks.{over_lt}
use Rattle.estimates.proofs.Walked.{climbing_none, climbing_next, climbing_all}
use Rattle.estimates.proofs.greatest.Goals as goal

pub loop-p-init : goal.loop-p-init
loop-p-init c = rw c.into_iter-p-iterator.ensures.into_iter_gives (rw c.each-p-items.ensures (climbing_none c.args.w c.args.costs.now c.ranges.w.fits))

pub offset_bounds-costs-p : goal.offset_bounds-costs-p
offset_bounds-costs-p c = let s = c.in-Some.ensures.steps in omega (arith, over_lt c.loop-p.invariant.over (λ z. omega (arith, s.0)) s.1)

pub bounds-costs-p : goal.bounds-costs-p
bounds-costs-p c = let s = c.in-Some.ensures.steps in over_lt c.loop-p.invariant.over (λ z. omega (arith, s.0)) s.1

pub loop-p-preserved : goal.loop-p-preserved
loop-p-preserved c =
    let a = c.args in
    let s = c.in-Some.ensures.steps in
    climbing_next a.w a.costs.now c.loop-p.most _ _ _ _ c.ranges.w.fits c.loop-p.invariant (λ z. omega (arith, s.0)) s.1 c.max-most.ensures s.2

pub returns : goal.returns
returns c = climbing_all c.args.w c.args.costs.now c.loop-p.most _ c.loop-p.invariant c.in-None.ensures.steps
