use mathlib.Core.Path.{ap₂, ◌∙◌}
use mathlib.Core.Bool.{Bool, ◌||◌}
use native.Mathlib.Omega.{arith}
use Rattle.facts.proofs.Sets.{has_and, has_or}
use Rattle.facts.proofs.Least.{first_same}
use Rattle.facts.proofs.Walks.{first_in}
use Rattle.interference.proofs.first_spoilt.Goals as goal

pub returns : goal.returns
returns c =
    let a = c.args in
    let w = c.each-spoilt.result.left in
    first_in w c.next.result _ (search) c.next.ensures.steps
    ∙ rw c.each-spoilt.ensures (first_same _ _ 64 (λ p l. has_or _ _ p ∙ ap₂ (λ (x y : Bool). x || y) (has_and a.deletes a.theirs p) (has_and a.others a.word p)))
