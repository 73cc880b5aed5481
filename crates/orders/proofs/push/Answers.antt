use Rattle.facts.proofs.Bools.{test_yes}
use Rattle.cells.proofs.Changes.{say}
use native.Mathlib.Omega.{arith}
use Rattle.states.proofs.Rules as rules
use Rattle.orders.proofs.push.Goals as goal

pub returns : goal.returns
returns c =
    let inside = test_yes c.inside.ensures c.if-not-inside.false in
    let sure = test_yes c.sure.ensures c.if-not-sure.false in
    say c.from.ensures (λ P wf e Q l k. omega (arith, rules.push P wf _ _ _ _ e inside sure Q l k))
