use Rattle.facts.proofs.Walks.{done_all}
use Rattle.jobs.proofs.Laws.{left_over}
use Rattle.keeps.proofs.Laws.{holds_next}
use Rattle.keeps.proofs.holds.Goals as goal

pub loop-a-preserved : goal.loop-a-preserved
loop-a-preserved c =
    let a = c.args in
    let s = c.in-Some.ensures.steps in
    holds_next a.s.now a.t.now _ c.loop-a.invariant s.2 s.1 c.hold-x.ensures

pub returns : goal.returns
returns c a b h l i n k = done_all c.loop-a.invariant c.in-None.ensures.steps a h l b (left_over _ _ _ c.outside-others.ensures b i n) k
