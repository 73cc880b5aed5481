use Rattle.outset.proofs.Apart.{waits_none, waits_next}
use Rattle.tables.specs.Tables.{problem}
use Rattle.distances.proofs.Rows.{free_released}
use mathlib.Core.Path.{◌≡◌}
use native.Mathlib.Omega.{arith}
use Rattle.outset.proofs.put_waits.Goals as goal

pub loop-a-init : goal.loop-a-init
loop-a-init c = (omega arith, λ l f. waits_none (problem l c.args.q) c.requires c.args.t.now)

pub row-row-requires : goal.row-row-requires
row-row-requires c =
    let a = c.args in
    (omega arith, omega arith, free_released a.l c.freed-free.result a.q c.freed-free.ensures)

pub loop-a-preserved : goal.loop-a-preserved
loop-a-preserved c =
    (omega arith, λ l f. waits_next (problem l c.args.q) c.requires c.args.t.now (c.loop-a.invariant.1 l f) (c.row-row.ensures l f) c.put_row.ensures)

pub returns : goal.returns
returns c =
    let e : c.loop-a.a ≡ c.args.q.jobs = omega arith in
    rw e at (c.loop-a.invariant.1 c.args.l c.freed-free.ensures)
