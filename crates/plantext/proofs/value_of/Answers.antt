use native.Mathlib.Omega.{arith}
use mathlib.Core.Path.{◌≡◌, refl, ap, ◌∙◌}
use Prim.Native.Nat.{ℕ, ◌-◌}
use Rattle.plantext.specs.Form.{value_of}
use Rattle.plantext.proofs.Laws.{value_more, value_fits, value_small}
use Rattle.plantext.proofs.value_of.Goals as goal

pub loop-i-init : goal.loop-i-init
unfolding value_of
loop-i-init c = (refl, omega arith)

pub overflow_mul-value : goal.overflow_mul-value
overflow_mul-value c = omega (arith, value_small c.loop-i.i c.loop-i.value (omega arith) c.loop-i.invariant.1)

pub overflow_add-value : goal.overflow_add-value
overflow_add-value c = omega (arith, value_small c.loop-i.i c.loop-i.value (omega arith) c.loop-i.invariant.1, c.digit_value.ensures.1)

pub loop-i-preserved : goal.loop-i-preserved
loop-i-preserved c =
    let a = c.args in (
      value_more a.text.now a.at c.loop-i.i _ _ c.loop-i.invariant.0 (c.digit_value.ensures.0 ∙ ap (λ (x : ℕ). x - 48) c.letter_at.ensures),
      value_fits c.loop-i.i _ _ c.loop-i.invariant.1 c.digit_value.ensures.1,
    )

pub returns : goal.returns
returns c = let e : c.loop-i.i ≡ c.args.digits = omega arith in rw e at c.loop-i.invariant.0
