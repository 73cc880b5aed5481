use native.Mathlib.Omega.{arith}
use Rattle.cells.specs.View.{view}
use Rattle.cells.proofs.Changes.{under}
use Rattle.distinct.proofs.Enough.{too_few, just_enough}
use Rattle.distinct.proofs.claim.Goals as goal

pub returns-then-n-m : goal.returns-then-n-m
returns-then-n-m c =
    let g = c.gather-m in
    let a = c.args in
    under (λ P wf e. too_few P wf e.listed.few (view a.s.now) a.p g.result c.givers-w.result (g.ensures P e) (c.givers-w.ensures P e) g.type_inv c.givers-w.type_inv (omega arith)) c.kill.ensures

pub returns-then-n-m-2 : goal.returns-then-n-m-2
returns-then-n-m-2 c =
    let g = c.gather-m in
    let a = c.args in
    under (λ P wf e. just_enough P wf e.listed.few (view a.s.now) a.p g.result c.givers-w.result (g.ensures P e) (c.givers-w.ensures P e) g.type_inv c.givers-w.type_inv (omega arith)) c.enter_all.ensures
