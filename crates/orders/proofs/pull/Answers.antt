use Rattle.facts.proofs.Bools.{test_yes}
use Rattle.cells.proofs.Changes.{say}
use native.Mathlib.Omega.{arith}
use Rattle.states.proofs.Rules as rules
use Rattle.orders.proofs.pull.Goals as goal

pub returns : goal.returns
returns c =
    say c.till.ensures.says
    (λ P wf e. rules.pull P wf _ _ _ _ e _
    (test_yes c.inside.ensures c.if-not-inside.false)
    (test_yes c.sure.ensures c.if-not-sure.false)
    (omega arith))
