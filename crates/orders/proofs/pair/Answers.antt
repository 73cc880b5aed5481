use Rattle.cells.proofs.Changes.{then, under}
use Rattle.facts.proofs.Tests.{same}
use native.Mathlib.Omega.{arith}
use Rattle.lent.proofs.Laws.{wait_of_lem}
use Rattle.orders.proofs.pair.Goals as goal

pub returns : goal.returns
returns c =
    let a = c.args in
    let wait = c.wait-wait.ensures in
    let push = c.push.ensures in
    let pull = c.pull.ensures in
    let far = c.far.ensures in
    let hits = c.hits.ensures in
    then (under (λ P wf e. rw wait (wait_of_lem e a.a a.b)) (then push (then pull far)))
    (then (under (λ P wf e h. e.listed.clash a.a a.b (omega arith) (rw hits at (same c.has.ensures h))) c.orders.ensures)
    (under (λ P wf e. tt) c.clash.ensures))
