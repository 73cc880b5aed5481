use native.Mathlib.Omega.{arith}
use Rattle.facts.proofs.Bools.{test_no}
use Rattle.distinct.proofs.Laws.{givers_open, givers_not}
use Rattle.distinct.proofs.givers.Goals as goal

pub returns-then-has : goal.returns-then-has
returns-then-has c P e =
    let a = c.args in
    rw (c.outsides.ensures, c.adders.ensures) (givers_open a.s.now e a.p c.requires (omega arith) (rw c.outsides.ensures at c.outsides.type_inv))

pub returns : goal.returns
returns c P e =
    let a = c.args in
    rw (c.outsides.ensures, c.adders.ensures)
    (givers_not a.s.now e a.p c.requires (omega arith) (rw c.outsides.ensures at c.outsides.type_inv) (rw c.opening.ensures at (test_no c.has.ensures c.if-has.false)))
