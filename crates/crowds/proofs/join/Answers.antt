use Rattle.std.proofs.Common.{rules}
use mathlib.Core.Path.{refl}
use native.Mathlib.Omega.{arith}
use Rattle.crowds.proofs.Laws.{heaps}
use Rattle.crowds.proofs.join.Goals as goal

pub returns : goal.returns
returns c =
    let a = c.args in
    rw c.from.ensures
    (heaps a.s.now a.t.now a.c a.h a.j _ c.requires refl refl (c.joins.ensures (search rules)) (omega arith) (omega arith) (omega arith)
    (λ b h k. omega (arith, c.sum-gone.ensures.0, c.latest.ensures b h k)))
