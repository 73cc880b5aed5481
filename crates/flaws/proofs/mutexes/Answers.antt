use Rattle.facts.proofs.Walks.{done_next, done_all}
use Rattle.flaws.specs.Flaw.{RowOrdered}
use Rattle.flaws.proofs.Flaws.{pick_map, pick_urgent}
use Rattle.flaws.proofs.mutexes.Goals as goal

pub loop-a-preserved : goal.loop-a-preserved
loop-a-preserved c P e =
    let s = c.in-Some.ensures.steps in
    pick_map (λ x. done_next x.0 s.2 (rw s.1 at x.1)) (λ n. n) (pick_urgent c.urgent-best.ensures (c.loop-a.invariant P e) (c.mutex_row.ensures P e))

pub returns : goal.returns
returns c P e = let x = c.args in pick_map (λ f a b l k h i. done_all {X = RowOrdered x.s.now x.t.now} f c.in-None.ensures.steps a i l b k h i) (λ n. n) (c.loop-a.invariant P e)
