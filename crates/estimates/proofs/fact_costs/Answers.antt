use mathlib.Core.Path.{◌∙◌}
use native.Mathlib.Omega.{arith}
use lib.ListN.{replicate, get_or-replicate}
use Rattle.tables.specs.Tables.{problem}
use Rattle.entries.specs.Entries.{entry}
use Rattle.estimates.proofs.Laws.{lag_none, unreached_costs, reached_costs}
use Rattle.estimates.proofs.fact_costs.Goals as goal

pub lower_all-requires : goal.lower_all-requires
lower_all-requires c =
    (c.requires, unreached_costs (problem c.args.l c.args.q) (entry (replicate 24 65535)) 0 c.unreached-costs.result (λ i l. get_or-replicate 24 i 65535 0 (omega arith)) c.unreached-costs.ensures)

pub returns : goal.returns
returns c =
    let P = problem c.args.l c.args.q in
    λ p m. reached_costs P (entry (replicate 24 65535)) (entry c.args.est) 0 _ _ _ (λ i l. get_or-replicate 24 i 65535 0 (omega arith)) c.lower_all.ensures p m ∙ lag_none P (entry c.args.est) p
