use mathlib.Core.Path.{◌≡◌, refl, ap, ap₂, ◌∙◌}
use Prim.Native.Nat.{ℕ, suc, ◌+◌, ◌-◌}
use native.Mathlib.Omega.{arith}
use Rattle.bytes_le.specs.Little.{number}
use Rattle.bytes_le.proofs.Numbers.{number_more, holds_more, within_eight}
use Rattle.bytes_le.proofs.number.Goals as goal

pub loop-place-init : goal.loop-place-init
unfolding number
loop-place-init c =
    let e : c.args.at + c.args.size - (c.args.at + c.args.size) ≡ 0 = omega arith in
    rw e (omega arith, refl, omega arith)

pub overflow_mul-value : goal.overflow_mul-value
overflow_mul-value c = let h = holds_more _ _ 0 c.loop-place.invariant.2 (omega arith) in let m = within_eight _ _ (omega arith) h in omega arith

pub overflow_add-value : goal.overflow_add-value
overflow_add-value c = let h = holds_more _ _ c.from.result c.loop-place.invariant.2 (omega arith) in let m = within_eight _ _ (omega arith) h in omega arith

pub loop-place-preserved : goal.loop-place-preserved
loop-place-preserved c =
    let a = c.args in
    let p = c.loop-place.place in
    let k : a.at + a.size - (p - 1) ≡ a.at + a.size - p + 1 = omega arith in
    let s : p ≡ suc (p - 1) = omega arith in
    rw k (omega arith, number_more _ a.bytes.now (p - 1) _ _ (c.loop-place.invariant.1 ∙ ap (number (a.at + a.size - p) a.bytes.now) s) c.from.ensures, holds_more _ _ _ c.loop-place.invariant.2 (omega arith))

pub returns : goal.returns
returns c =
    let a = c.args in
    let at : c.loop-place.place ≡ a.at = omega arith in
    let k : a.at + a.size - c.loop-place.place ≡ a.size = omega arith in
    record { says = c.loop-place.invariant.1 ∙ ap₂ (λ (n p : ℕ). number n a.bytes.now p) k at; fits = rw k at c.loop-place.invariant.2 }
