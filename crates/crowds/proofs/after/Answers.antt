use mathlib.Core.Path.{refl}
use native.Mathlib.Omega.{arith}
use Rattle.std.proofs.Common.{rules}
use Rattle.cells.proofs.Changes.{say}
use Rattle.crowds.proofs.Laws.{stands_after}
use Rattle.crowds.proofs.after.Goals as goal

pub returns-then-within : goal.returns-then-within
returns-then-within c =
    say (rw c.from.ensures at c.from-then-within.ensures) (λ P wf x Q q. stands_after c.requires.0 refl x (omega (arith, c.if-h-ne0.true)) (rw c.row_sure.ensures at (c.within.ensures.yea (search rules))) Q q)
