use mathlib.Core.Path.{ap, ap₂, ◌∙◌}
use mathlib.Core.List.{List}
use lib.ListN.{set, replicate}
use Rattle.tables.specs.declared.Action.{Action}
use Rattle.tables.specs.declared.Loaded.{Loaded}
use Rattle.tables.specs.Tables.{no_job}
use Rattle.tables.proofs.Lent.{filled_none, filled_more}
use Rattle.jobfile.specs.Format.{action_in}
use Rattle.jobfile_read.proofs.first_records.Goals as goal

pub loop-i-init : goal.loop-i-init
loop-i-init c = ap (λ (l : Loaded). l.jobs) c.no_jobs.ensures ∙ filled_none (action_in c.args.records.now) (replicate 24 no_job)

pub loop-i-preserved : goal.loop-i-preserved
loop-i-preserved c =
    ap₂ (λ (ts : List Action) (a : Action). set ts c.loop-i.i a) c.loop-i.invariant c.action_in.ensures
    ∙ filled_more (action_in c.args.records.now) c.loop-i.i (replicate 24 no_job)
