use mathlib.Core.Path.{ap}
use mathlib.Core.Bool.{not}
use native.Mathlib.Omega.{arith}
use Rattle.facts.specs.Facts.{has}
use Rattle.facts.proofs.Bools.{and_l, and_first, and_next, same}
use Rattle.facts.proofs.Sets.{has_lt}
use Rattle.following.proofs.only_in.Goals as goal

pub returns-then-j-ge64 : goal.returns-then-j-ge64
returns-then-j-ge64 c =
    let x = c.args in
    same _ _ (λ t. absurd t) (λ t. absurd (omega (arith, has_lt 64 x.a x.j c.ranges.a.fits (and_l (has x.a x.j) _ t))))

pub returns-then-has : goal.returns-then-has
returns-then-has c = rw (← c.from-j.ensures) (and_next c.has.ensures c.if-has.true (ap not c.has-then-has.ensures))

pub returns-else-has : goal.returns-else-has
returns-else-has c = rw (← c.from-j.ensures) (and_first _ c.has.ensures c.if-has.false)
