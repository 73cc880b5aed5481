use mathlib.Core.Path.{◌≡◌, sym, ◌∙◌}
use mathlib.Core.Logic.{◌⊎◌, inl, inr}
use mathlib.Core.Bool.{false}
use Prim.Native.Nat.{ℕ, ◌<◌}
use native.Mathlib.Omega.{arith}
use Rattle.std.specs.Prelude.{Some, None}
use Rattle.facts.proofs.Bools.{below_suc}
use Rattle.facts.proofs.Least.{first_is, fails_more}
use Rattle.facts.proofs.first.Goals as goal

pub returns-then-test : goal.returns-then-test
returns-then-test g c f k =
    let i = c.loop-i.i in
    first_is f c.args.n (Some i) (c.loop-i-test.true, sym (k i c.loop-i-test.true c.test.result c.test.ensures) ∙ c.if-test.true, c.loop-i.invariant f k)

pub loop-i-preserved : goal.loop-i-preserved
loop-i-preserved g c f k =
    let i = c.loop-i.i in
    fails_more f i (c.loop-i.invariant f k) (sym (k i c.loop-i-test.true c.test.result c.test.ensures) ∙ c.if-test.false)

pub returns : goal.returns
returns g c f k =
    let e : c.loop-i.i ≡ c.args.n = omega arith in
    first_is f c.args.n None (rw e at c.loop-i.invariant f k)
