use Rattle.facts.proofs.Walks.{done_next}
use Rattle.flaws.proofs.Flaws.{pick_map, pick_urgent, done_own}
use Rattle.flaws.proofs.conditions.Goals as goal

pub loop-p-preserved : goal.loop-p-preserved
loop-p-preserved c P e =
    let s = c.in-Some.ensures.steps in
    pick_map (λ x. done_next x.0 s.2 (rw s.1 at x.1)) (λ n. n) (pick_urgent c.urgent-best.ensures (c.loop-p.invariant P e) (c.condition.ensures P e))

pub returns : goal.returns
returns c P e = pick_map (λ f. done_own f c.in-None.ensures.steps) (λ n. n) (c.loop-p.invariant P e)
