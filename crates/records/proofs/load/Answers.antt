use mathlib.Core.Path.{ap, ap₂, ◌∙◌}
use mathlib.Core.List.{List, ◌++◌}
use native.Mathlib.Omega.{arith}
use Prim.Native.Nat.{ℕ}
use lib.ListN.{length, drop, replicate}
use Rattle.tables.specs.declared.Action.{Action}
use Rattle.tables.specs.declared.Loaded.{Loaded}
use Rattle.tables.specs.Tables.{no_job, record_at, tabled}
use Rattle.tables.proofs.Lent.{filled_copy}
use Rattle.records.proofs.load.Goals as goal

pub returns : goal.returns
returns c =
    let ts = c.args.t.now in
    ap (λ (js : List Action). record { jobs = js; lent = length ts })
    (ap₂ (λ (new : List Action) (l : Loaded). new ++ drop c.min-n.result l.jobs) c.copy_from_slice.ensures.after c.no_jobs.ensures
    ∙ filled_copy ts (replicate 24 no_job) no_job c.min-n.result (omega (arith, c.min-n.ensures)) (omega (arith, c.min-n.ensures)))
    ∙ ap (λ (k : ℕ). tabled (record_at ts) k (length ts)) c.min-n.ensures
