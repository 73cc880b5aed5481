use mathlib.Core.Path.{◌≡◌, refl}
use native.Mathlib.Omega.{arith}
use Rattle.tables.specs.Tables.{problem}
use Rattle.estimates.proofs.Laws.{going_none, going_more, going_all}
use Rattle.estimates.proofs.round.Goals as goal

pub loop-i-init : goal.loop-i-init
loop-i-init c = (omega arith, λ q e g h s. going_none (problem c.args.l q) c.args.est.now c.args.costs.now h c.requires.1)

pub loop-i-preserved : goal.loop-i-preserved
loop-i-preserved c =
    let a = c.args in
    (omega arith, λ q e g h s. going_more (problem a.l q) a.est.now a.costs.now h a.cheaper c.loop-i.i c.loop-i.est c.loop-i.costs c.loop-i.new c.look-next.result _ _ s (omega (arith, c.loop-i-test.true)) (omega (arith, c.requires.0)) (c.loop-i.invariant.1 q e g h s) c.look-next.ensures (rw g at c.lower_by-new.ensures))

pub returns : goal.returns
returns c =
    let a = c.args in
    let p = c.requires in
    let e : c.loop-i.i ≡ a.q.jobs = omega arith in
    going_all (problem a.l a.q) a.est.now a.costs.now p.2 _ _ _ (rw e at (c.loop-i.invariant.1 a.q refl c.gap-gap.ensures p.2 p.3))
