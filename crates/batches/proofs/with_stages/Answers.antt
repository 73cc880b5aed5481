use mathlib.Core.Path.{subst}
use Prim.Native.Nat.{ℕ}
use native.Mathlib.Omega.{arith}
use lib.ListN.{length}
use Rattle.batches.specs.Batches.{stage_at, jobs_for}
use Rattle.batches.specs.Steps.{OneStage}
use Rattle.batches.proofs.Laws.{sum_next, sum_none, sum_at}
use Rattle.batches.proofs.Jobs.{no_stages, stages_more}
use Rattle.batches.proofs.with_stages.Goals as goal

pub loop-i-init : goal.loop-i-init
loop-i-init c =
    let a = c.args in
    let ss = a.stages.now in
    (omega (arith, sum_none (λ j. jobs_for (stage_at ss j))), no_stages a.l ss a.at a.first)

pub with_stage-t-requires : goal.with_stage-t-requires
with_stage-t-requires c =
    let ss = c.args.stages.now in
    let b = c.loop-i in
    (omega (arith, b.invariant.0, sum_at (λ j. jobs_for (stage_at ss j)) b.i (length ss) c.loop-i-test.true, c.requires.1), omega arith)

pub overflow_add-n : goal.overflow_add-n
overflow_add-n c =
    let ss = c.args.stages.now in
    let b = c.loop-i in
    omega (arith, b.invariant.0, c.jobs_for-n.ensures, sum_at (λ j. jobs_for (stage_at ss j)) b.i (length ss) c.loop-i-test.true, c.requires.1)

pub loop-i-preserved : goal.loop-i-preserved
loop-i-preserved c =
    let a = c.args in
    let b = c.loop-i in
    let ss = a.stages.now in (
      omega (arith, b.invariant.0, c.jobs_for-n.ensures, sum_next (λ k. jobs_for (stage_at ss k)) b.i),
      stages_more a.l b.t c.with_stage-t.result ss b.i a.at a.first b.invariant.1
          (subst (λ (n : ℕ). OneStage b.t n (stage_at ss b.i) a.first b.i c.with_stage-t.result) b.invariant.0 c.with_stage-t.ensures),
    )
