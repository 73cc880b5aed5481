use mathlib.Core.Logic.{inr, ⊎_elim}
use native.Mathlib.Omega.{arith}
use Rattle.facts.proofs.Walks.{over_next, over_here}
use Rattle.lent.specs.Lent.{wants_of}
use Rattle.distinct.proofs.Laws.{behind_all}
use Rattle.distinct.proofs.parted.Goals as goal

pub loop-q-preserved : goal.loop-q-preserved
loop-q-preserved c =
    let i = c.loop-q.invariant in
    let a = c.args in
    let s = c.in-Some.ensures.steps in (
      over_next i.0 s.2,
      λ b h. ⊎_elim (i.1 b) inr (c.with_pin-w.ensures.of (wants_of a.t.now a.c) b (over_here i.0 (λ z. omega arith) s.1) h),
    )

pub returns : goal.returns
returns c = behind_all c.loop-q.w c.hits.result c.loop-q.invariant.1 (λ b h. rw c.hits.ensures at h)
