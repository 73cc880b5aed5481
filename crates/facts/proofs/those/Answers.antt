use mathlib.Core.Path.{◌≡◌}
use native.Mathlib.Omega.{arith}
use Rattle.facts.proofs.Sets.{has_zero}
use Rattle.facts.proofs.Passing.{passing_none, passing_more, short_more}
use Rattle.facts.proofs.those.Goals as goal

pub loop-i-init : goal.loop-i-init
loop-i-init g c = (λ f k. passing_none f, λ p x. absurd (has_zero p x))

pub loop-i-preserved : goal.loop-i-preserved
loop-i-preserved g c =
    let i = c.loop-i in
    let w = c.with_if-w.ensures in
    (λ f k. passing_more f i.i i.w _ (i.invariant.0 f k) (k i.i c.loop-i-test.true c.test.result c.test.ensures) w, short_more i.i i.w _ _ i.invariant.1 w)

pub returns : goal.returns
returns g c =
    let e : c.loop-i.i ≡ c.args.n = omega arith in
    record { word = λ f k. rw e at c.loop-i.invariant.0 f k; below = λ p x. rw e at c.loop-i.invariant.1 p x }
