use mathlib.Core.Path.{◌≡◌, refl}
use native.Mathlib.Omega.{arith}
use Rattle.tables.specs.Tables.{problem}
use Rattle.entries.specs.Entries.{entry}
use Rattle.estimates.proofs.Laws.{cheaper_none, cheaper_more}
use Rattle.estimates.proofs.lower_all.Goals as goal

pub loop-i-init : goal.loop-i-init
loop-i-init c = (omega arith, λ q e h. cheaper_none (problem c.args.l q) (entry c.args.next) (entry c.args.est) c.args.lag c.args.costs.now h)

pub loop-i-preserved : goal.loop-i-preserved
loop-i-preserved c =
    let l = c.loop-i in
    let a = c.args in
    (omega arith, λ q e h. cheaper_more (problem a.l q) (entry a.next) (entry a.est) a.lag l.i a.costs.now l.costs _ l.cheaper _ (omega (arith, c.loop-i-test.true)) (l.invariant.1 q e h) c.lower_by-cheaper.ensures)

pub returns : goal.returns
returns c =
    let e : c.loop-i.i ≡ c.args.q.jobs = omega arith in
    rw e at (c.loop-i.invariant.1 c.args.q refl c.requires.1)
