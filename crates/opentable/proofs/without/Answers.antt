use mathlib.Core.Path.{ap, ◌∙◌}
use Rattle.tables.specs.declared.Loaded.{Loaded}
use Rattle.opentable.specs.Steps.{moved_jobs}
use Rattle.opentable.proofs.Laws.{without_so}
use Rattle.opentable.proofs.without.Goals as goal

pub returns : goal.returns
returns c = let a = c.args in
    without_so a.t a.k c.jobs_moved.result c.rows_moved-rows.result (c.jobs_moved.ensures ∙ ap (λ (l : Loaded). moved_jobs l a.k) c.jobs_of.ensures) c.rows_moved-rows.ensures
