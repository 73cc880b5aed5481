use Rattle.outset.proofs.Apart.{row_none, row_next}
use Rattle.outset.proofs.Words.{narrow}
use mathlib.Core.Path.{◌≡◌}
use native.Mathlib.Omega.{arith}
use borrow.Author.Rules.{rules}
use Rattle.outset.proofs.put_row.Goals as goal

pub loop-b-init : goal.loop-b-init
loop-b-init c = (omega arith, row_none c.args.row c.args.a c.args.t.now)

pub loop-b-preserved : goal.loop-b-preserved
loop-b-preserved c =
    let a = c.args in
    let l = c.loop-b in
    (omega arith, row_next a.row a.a a.t.now l.invariant.1 c.put_wait.ensures (narrow c.from.ensures (search rules)))

pub returns : goal.returns
returns c = let e : c.loop-b.b ≡ 25 = omega arith in rw e at c.loop-b.invariant.1
