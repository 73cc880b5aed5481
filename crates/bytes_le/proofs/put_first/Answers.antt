use lib.ListN.{set, take}
use lib.Seq.{length-take-le}
use Prim.Native.Nat.{◌%◌, ℕ, ◌/◌}
use mathlib.Core.Path.{ap₂, ◌≡◌, refl, sym, ap, ◌∙◌}
use mathlib.Core.List.{List}
use native.Mathlib.Omega.{arith}
use native.Mathlib.Nat.{div-one}
use Rattle.bytes_le.specs.Little.{little, at_front}
use Rattle.bytes_le.proofs.Numbers.{length_little, left_more}
use Rattle.bytes_le.proofs.Laid.{over_more, front_back}
use Rattle.bytes_le.proofs.put_first.Goals as goal

pub loop-byte-init : goal.loop-byte-init
unfolding little
loop-byte-init c = (sym (div-one _), refl)

pub loop-byte-preserved : goal.loop-byte-preserved
loop-byte-preserved c =
    let a = c.args in
    let i = c.loop-byte.byte-index in (
      ap (λ (n : ℕ). n / 256) c.loop-byte.invariant.0 ∙ left_more i a.value,
      ap₂ (λ (t : List ℕ) (n : ℕ). set t i (n % 256)) c.loop-byte.invariant.1 c.loop-byte.invariant.0 ∙ over_more i a.value (take a.size a.out.now) (omega arith),
    )

pub returns : goal.returns
returns c =
    let a = c.args in
    let e : c.loop-byte.byte-index ≡ a.size = omega (arith, length-take-le a.size a.out.now c.requires) in
    front_back (little a.size a.value) a.out.now (length_little a.size a.value) c.requires (c.loop-byte.invariant.1 ∙ ap (λ (n : ℕ). at_front (little n a.value) (take a.size a.out.now)) e)
