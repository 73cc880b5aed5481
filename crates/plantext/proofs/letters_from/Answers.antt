use mathlib.Core.Bool.{not}
use mathlib.Core.Path.{ap, ◌∙◌}
use native.Mathlib.Omega.{arith}
use Prim.Native.Nat.{ℕ, ◌+◌}
use borrow.Author.Count.{below_more}
use lib.Dec.{T_not, not_T}
use Rattle.facts.proofs.Least.{found, not_found}
use Rattle.facts.proofs.Tests.{passed, failed}
use Rattle.plantext.specs.Form.{letter_at}
use Rattle.plantext.proofs.letters_from.Goals as goal

pub returns-then-not-test-clause-count : goal.returns-then-not-test-clause-count
returns-then-not-test-clause-count g c f h =
    let a = c.args in
    let t = λ (i : ℕ). f (letter_at a.text.now (a.at + i)) in
    let e = h _ (omega arith) _ c.test.ensures ∙ ap f c.letter_at.ensures in
    found (λ i. not (t i)) a.most c.loop-i.i (omega arith) (not_T _ (failed e c.if-not-test.true-raw)) (λ k l y. T_not (t k) y (c.loop-i.invariant f h k l))

pub loop-i-preserved : goal.loop-i-preserved
loop-i-preserved g c f h = below_more _ _ (c.loop-i.invariant f h) (passed (h _ (omega arith) _ c.test.ensures ∙ ap f c.letter_at.ensures) c.if-not-test.false-raw)

pub returns-clause-count : goal.returns-clause-count
returns-clause-count g c f h =
    let a = c.args in
    let t = λ (i : ℕ). f (letter_at a.text.now (a.at + i)) in
    not_found (λ i. not (t i)) a.most c.loop-i.i (omega arith) (λ k l y. T_not (t k) y (c.loop-i.invariant f h k l))
