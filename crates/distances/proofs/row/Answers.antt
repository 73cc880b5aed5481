use mathlib.Core.Path.{subst}
use Prim.Native.Nat.{ℕ}
use Rattle.tables.specs.Tables.{job_at}
use Rattle.distances.specs.Distances.{RowWithin}
use Rattle.distances.proofs.Rows.{row_free}
use Rattle.distances.proofs.row.Goals as goal

pub returns : goal.returns
returns c =
    let e = c.estimate_all-est in
    let w = c.lacks-spared in
    let d = c.dearest-end in
    let a = c.args in
    λ l. row_free l a.k a.q a.a w.result e.result d.result c.behind.result c.requires.0 w.ensures e.ensures d.ensures (subst (λ (g : ℕ). RowWithin (job_at a.k a.a).duration g e.result d.result c.behind.result) c.gap.ensures c.behind.ensures)
