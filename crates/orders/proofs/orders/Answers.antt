use Rattle.facts.proofs.Bools.{test_yes}
use Rattle.cells.proofs.Changes.{says}
use mathlib.Core.Path.{refl}
use Rattle.states.proofs.Rules as rules
use Rattle.orders.proofs.orders.Goals as goal

pub returns-then-sure : goal.returns-then-sure
returns-then-sure c = says c.put_never.ensures (λ P wf e. rules.one_way P wf _ _ _ (test_yes c.sure.ensures c.if-sure.true))

pub returns-then-hit : goal.returns-then-hit
returns-then-hit c = says c.put_sure.ensures (λ P wf e. rules.other_way P wf _ _ _ (e (test_yes refl c.if-hit.true)) (test_yes c.never.ensures c.if-not-never.false))
