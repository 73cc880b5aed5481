use Rattle.turns.proofs.Laws.{walked_none, walked_next, walked_all, lowest_small}
use Rattle.turns.proofs.image.Goals as goal

pub loop-p-init : goal.loop-p-init
loop-p-init c = rw c.into_iter-p-iterator.ensures.into_iter_gives (rw c.each-p-items.ensures (walked_none c.ranges.w.fits))

pub with_moved-r-requires : goal.with_moved-r-requires
with_moved-r-requires c = let s = c.in-Some.ensures.steps in lowest_small c.loop-p.invariant.over.short s.0 s.1

pub loop-p-preserved : goal.loop-p-preserved
loop-p-preserved c = let s = c.in-Some.ensures.steps in walked_next c.loop-p.invariant s.0 s.1 c.with_moved-r.ensures s.2

pub returns : goal.returns
returns c = walked_all c.loop-p.invariant c.in-None.ensures.steps
