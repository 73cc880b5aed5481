use mathlib.Core.Path.{sym, ap, ap₂, ◌∙◌}
use mathlib.Core.List.{List}
use Prim.Native.Nat.{ℕ, ◌+◌}
use Rattle.batches.specs.declared.Stage.{Stage}
use native.Mathlib.Omega.{arith}
use lib.ListN.{length, get_or}
use Rattle.batches.specs.Batches.{group_stages, batch_stages, jobs_up_to}
use Rattle.batches.proofs.Laws.{group_fair, up_to_le, first_job_le, sum_next, sum_none}
use Rattle.batches.proofs.job_count.Goals as goal

pub loop-group-init : goal.loop-group-init
loop-group-init c = sym (sum_none _)

pub stages_of-requires : goal.stages_of-requires
stages_of-requires c = rw c.from.ensures (c.requires.0 c.loop-group.group-index c.loop-group-test.true)

pub group_jobs-jobs-requires : goal.group_jobs-jobs-requires
group_jobs-jobs-requires c =
    let i = c.loop-group.group-index in
    rw (c.stages_of.ensures, c.from.ensures) (group_fair (get_or c.args.groups.now i 0) (c.requires.0 i c.loop-group-test.true)).few

pub overflow_add-jobs : goal.overflow_add-jobs
overflow_add-jobs c =
    let b = c.loop-group in
    let gs = c.args.groups.now in
    let ss = c.stages_of.result.now in
    omega (arith, b.invariant, first_job_le gs c.requires.0 b.group-index b.auto.group-index-end, c.requires.1, c.group_jobs-jobs.ensures, up_to_le ss (length ss))

pub loop-group-preserved : goal.loop-group-preserved
loop-group-preserved c =
    let gs = c.args.groups.now in
    ap₂ (λ (m n : ℕ). m + n) c.loop-group.invariant (c.group_jobs-jobs.ensures ∙ ap (λ (ss : List Stage). jobs_up_to ss (length ss)) (c.stages_of.ensures ∙ ap group_stages c.from.ensures))
    ∙ sym (sum_next (λ k. jobs_up_to (batch_stages gs k) (length (batch_stages gs k))) c.loop-group.group-index)
