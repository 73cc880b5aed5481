use mathlib.Core.Path.{refl, ◌∙◌}
use native.Mathlib.Omega.{arith}
use Rattle.cells.proofs.Changes.{none, follows}
use Rattle.crowds.proofs.Overload.{pile_none}
use Rattle.crowds.proofs.Laws.{heaped_more, heaped_dead, heaped_join}
use Rattle.crowds.proofs.full_from.Goals as goal

pub loop-j-init : goal.loop-j-init
loop-j-init c = (omega arith, refl, none, λ P x. record { lent = x.lent; piled = rw c.from.ensures (pile_none P _ _ c.args.from) })

pub returns-then-h-from : goal.returns-then-h-from
returns-then-h-from c =
    let i = c.loop-j.invariant in
    let j = c.join-h.ensures in
    follows i.2 (λ P x y. heaped_dead (heaped_join i.2 j i.3 P x) (omega (arith, j.same, i.1, c.if-h-from.true))) c.kill.ensures

pub loop-j-preserved : goal.loop-j-preserved
loop-j-preserved c =
    let i = c.loop-j.invariant in
    let j = c.join-h.ensures in
    let b = c.beside_if.ensures in
    (j.small i.0, j.same ∙ i.1, follows i.2 (λ P x y. heaped_join i.2 j i.3 P x) b, λ P x. heaped_more P (heaped_join i.2 j i.3 P x) b.more)
