use native.Mathlib.Omega.{arith}
use Rattle.facts.proofs.Walks.{over_next, over_here}
use Rattle.flaws.proofs.Flaws.{pick_map, pick_sooner, no_job_lem}
use Rattle.flaws.proofs.best_job.Goals as goal

pub returns-in-Fine : goal.returns-in-Fine
returns-in-Fine c P p k =
    let i = c.loop-a.invariant P p k in
    let s = c.in-Some.ensures.steps in
    pick_map (λ x. x) absurd (pick_sooner c.sooner-best.ensures i.1 (c.offer.ensures P p k (over_here i.0 (λ e. omega arith) s.1)))

pub loop-a-preserved : goal.loop-a-preserved
loop-a-preserved c P p k =
    let i = c.loop-a.invariant P p k in
    let s = c.in-Some.ensures.steps in
    (over_next i.0 s.2, pick_map (λ x. x) absurd (pick_sooner c.sooner-best.ensures i.1 (c.offer.ensures P p k (over_here i.0 (λ e. omega arith) s.1))))

pub returns : goal.returns
returns c P p k = pick_map (λ x. x) (λ f. no_job_lem k f c.in-None.ensures.steps) (c.loop-a.invariant P p k).1
