use mathlib.Core.Path.{ap}
use mathlib.Core.List.{List}
use Rattle.std.proofs.Common.{rules}
use Rattle.tables.specs.declared.Action.{Action}
use Rattle.tables.specs.declared.Loaded.{Loaded}
use Rattle.tables.specs.Tables.{no_job, record_at}
use Rattle.opentable.specs.Open.{moved_from}
use Rattle.opentable.proofs.Arrays.{placed}
use Rattle.opentable.proofs.jobs_moved.Goals as goal

abbrev with_jobs : Loaded → List Action → Loaded
with_jobs l jobs = record { jobs = jobs; lent = l.lent }

pub returns : goal.returns
returns c =
    let a = c.args in
    ap (with_jobs a.l) (placed _ _ _ no_job (λ i. record_at a.l.jobs (moved_from a.k i)) (λ i y q l k. (search rules, search rules)) c.from_fn-jobs.ensures.items)
