use Rattle.outset.proofs.Led.{leads_none, leads_next}
use mathlib.Core.Path.{◌≡◌}
use native.Mathlib.Omega.{arith}
use Rattle.outset.proofs.put_leads.Goals as goal

pub loop-m-init : goal.loop-m-init
loop-m-init c = (omega arith, leads_none c.args.l c.args.q c.args.t.now)

pub loop-m-preserved : goal.loop-m-preserved
loop-m-preserved c =
    let a = c.args in
    (omega arith, leads_next a.l a.q a.t.now c.loop-m.invariant.1 c.follower.ensures.within c.follower.ensures.led c.put_led.ensures)

pub returns : goal.returns
returns c = let e : c.loop-m.m ≡ 24 = omega arith in rw e at c.loop-m.invariant.1
