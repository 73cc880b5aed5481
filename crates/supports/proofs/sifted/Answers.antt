use native.Mathlib.Omega.{arith}
use Rattle.supports.proofs.Laws.{sifted_none, sifted_next, sifted_all}
use Rattle.supports.proofs.sifted.Goals as goal

pub loop-j-init : goal.loop-j-init
loop-j-init g c = rw (c.into_iter-j-iterator.ensures.into_iter_gives, c.each-j-items.ensures) (sifted_none (omega (arith, c.ranges.all.fits)))

pub loop-j-preserved-then-j-lt24 : goal.loop-j-preserved-then-j-lt24
loop-j-preserved-then-j-lt24 g c = let s = c.in-Some.ensures.steps in sifted_next c.loop-j.invariant s.0 s.1 s.2 c.test.ensures c.with_if-w.ensures

pub returns : goal.returns
returns g c = sifted_all c.loop-j.invariant c.in-None.ensures.steps
