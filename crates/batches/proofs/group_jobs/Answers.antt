use mathlib.Core.Path.{◌≡◌, ◌∙◌}
use Rattle.std.proofs.Common.{rules}
use Rattle.std.specs.List.{sum_by}
use Rattle.batches.specs.Batches.{jobs_for}
use Rattle.batches.specs.Groups.{bench_stage}
use Rattle.batches.proofs.Laws.{sum_by_place}
use Rattle.batches.proofs.group_jobs.Goals as goal

pub returns : goal.returns
returns c =
    let ss = c.args.stages.now in
    let e : c.sum.result ≡ sum_by jobs_for ss = search rules in
    e ∙ sum_by_place jobs_for ss (bench_stage 0)
