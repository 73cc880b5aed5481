use Rattle.cells.proofs.Changes.{says}
use native.Mathlib.Omega.{arith}
use Rattle.states.proofs.Rules as rules
use Rattle.orders.proofs.far.Goals as goal

pub returns-then-from-sum : goal.returns-then-from-sum
returns-then-from-sum c = says c.put_never.ensures (λ P wf e. rules.far P wf _ _ _ _ e (omega arith))
