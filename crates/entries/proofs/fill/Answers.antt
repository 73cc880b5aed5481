use mathlib.Core.Path.{ap, ◌∙◌}
use mathlib.Core.List.{List, ◌++◌}
use native.Mathlib.Omega.{arith}
use Prim.Native.Nat.{ℕ}
use lib.ListN.{drop}
use Rattle.tables.proofs.Lent.{filled_copy}
use Rattle.entries.proofs.fill.Goals as goal

pub returns : goal.returns
returns c =
    let a = c.args in
    ap (λ (xs : List ℕ). xs ++ drop a.n a.out.now) c.copy_from_slice.ensures.after ∙ filled_copy a.from a.out.now 0 a.n (omega (arith, c.well_formed, c.requires.0)) c.requires.1
