use borrow.Author.Rules.{rules}
use native.Mathlib.Omega.{arith}
use lib.ListN.{replicate, get_or-replicate}
use Rattle.facts.proofs.Bools.{test_yes, test_no}
use Rattle.rules.proofs.Sums.{cond_yes}
use Rattle.tables.specs.Tables.{problem}
use Rattle.entries.specs.Entries.{entry}
use Rattle.estimates.specs.Rounds.{due}
use Rattle.estimates.proofs.Laws.{unreached_costs, standing_first, standing_next, sum_less, solved}
use Rattle.estimates.proofs.estimate_all.Goals as goal

pub lower_all-cheaper-requires : goal.lower_all-cheaper-requires
lower_all-cheaper-requires c =
    (c.requires.0, unreached_costs (problem c.args.l c.args.q) (entry (replicate 24 65535)) c.gap.result c.unreached-costs.result (λ i l. get_or-replicate 24 i 65535 0 (omega (arith, c.requires.0))) c.unreached-costs.ensures)

pub loop-l-init : goal.loop-l-init
loop-l-init c =
    (search rules, standing_first (problem c.args.l c.args.q) (replicate 24 65535) c.first-est.result c.unreached-costs.result _ _ (λ i l. omega (arith, c.requires.1 i l)) (λ i l. get_or-replicate 24 i 65535 0 (omega (arith, c.requires.0))) c.first-est.ensures c.unreached-costs.ensures (rw c.gap.ensures at c.lower_all-cheaper.ensures))

pub round-cheaper-requires : goal.round-cheaper-requires
round-cheaper-requires c = let l = c.loop-l in (c.requires.0, l.invariant.0, l.invariant.1.costs, l.invariant.1.rests)

pub loop-l-smaller : goal.loop-l-smaller
loop-l-smaller c =
    let l = c.loop-l in
    omega (
      arith,
      cond_yes (due c.needed-needed.result l.cheaper) 1 0 (test_yes c.meets.ensures c.loop-l-test.true),
      sum_less (problem c.args.l c.args.q) l.est l.costs _ _ l.cheaper _ l.invariant.1 c.round-cheaper.ensures c.needed-needed.result,
    )

pub loop-l-preserved : goal.loop-l-preserved
loop-l-preserved c =
    (c.round-cheaper.ensures.room, standing_next (problem c.args.l c.args.q) c.loop-l.est c.loop-l.costs _ _ c.loop-l.cheaper _ c.loop-l.invariant.1 c.round-cheaper.ensures)

pub returns : goal.returns
returns c =
    solved (problem c.args.l c.args.q) (entry c.loop-l.est) c.needed-needed.result c.loop-l.cheaper c.loop-l.invariant.1.rests c.needed-needed.ensures (test_no c.meets.ensures c.loop-l-test.false)
