use mathlib.Core.Path.{sym}
use native.Mathlib.Omega.{arith}
use lib.ListN.{length}
use Rattle.batches.specs.Batches.{batch_stages, jobs_up_to}
use Rattle.batches.proofs.Laws.{sum_at, first_done_le}
use Rattle.batches.proofs.Jobs.{drafted_none, drafted_more}
use Rattle.batches.proofs.with_batches.Goals as goal

pub loop-group-init : goal.loop-group-init
loop-group-init c = drafted_none _ _

pub with_batch-d-requires : goal.with_batch-d-requires
with_batch-d-requires c =
    let gs = c.args.groups.now in
    let b = c.loop-group in
    let i = b.group-index in
    let l = c.loop-group-test.true in
    rw c.from.ensures (
      c.requires.0 i l,
      omega (arith, b.invariant.jobs, sum_at (λ k. jobs_up_to (batch_stages gs k) (length (batch_stages gs k))) i (length gs) l, c.requires.2),
      omega (arith, b.invariant.facts, first_done_le gs c.requires.0 i b.auto.group-index-end, c.requires.1),
    )

pub loop-group-preserved : goal.loop-group-preserved
loop-group-preserved c =
    let b = c.loop-group in
    drafted_more c.args.groups.now b.group-index b.d c.with_batch-d.result b.invariant (rw (sym c.from.ensures) c.with_batch-d.ensures)
