use native.Mathlib.Omega.{arith}
use borrow.Author.Count.{below_more}
use Rattle.flaws.proofs.Flaws.{pick_map, pick_urgent}
use Rattle.flaws.proofs.consumers.Goals as goal

pub loop-b-preserved : goal.loop-b-preserved
loop-b-preserved c P e = pick_map (λ x. below_more _ _ x.0 x.1) (λ n. n) (pick_urgent c.urgent-best.ensures (c.loop-b.invariant P e) (c.consumer.ensures P e))

pub returns : goal.returns
returns c P e = pick_map (λ f b l. f b (omega arith)) (λ n. n) (c.loop-b.invariant P e)
