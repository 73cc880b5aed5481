use Rattle.facts.proofs.Bools.{test_yes}
use Rattle.cells.proofs.Changes.{says}
use Rattle.states.proofs.Rules as rules
use Rattle.orders.proofs.through.Goals as goal

pub returns : goal.returns
returns c =
    let m = c.args.m in
    says c.put_sures.ensures
    (λ P wf e Q l x h. rules.through P wf _ x m _
    (test_yes c.inside.ensures c.if-not-inside.false)
    (rw c.row_sure-v.ensures at h)
    (test_yes c.sure.ensures c.if-not-sure.false)
    Q l)
