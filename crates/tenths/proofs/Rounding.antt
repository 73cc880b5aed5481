-- Rounding the product breaks the rule: by computation. Assumes nothing.
use mathlib.Core.Path.{◌≡◌, refl}
use Prim.Native.Nat.{ℕ}
use native.Mathlib.Omega.{arith}
use lib.IntN.{pos}
use lib.Dec.{T}
use Rattle.tenths.specs.Tenths.{in_range, AreTenths, tenths}
use Rattle.tenths.specs.Rounding.{float, thirty_five, rounded_tenths}
use Rattle.tenths.proofs.Nearest.{tenths_only}

-- 0.35 is in range and has 3 tenths; the nearest to the rounded product is 4
pub thirty_five_in : T (in_range thirty_five)
unfolding in_range float
thirty_five_in = tt

pub thirty_five_lem : tenths thirty_five ≡ pos 3
unfolding tenths float
thirty_five_lem = refl

pub thirty_five_rounded : rounded_tenths thirty_five ≡ pos 4
unfolding rounded_tenths
thirty_five_rounded = refl

-- so rounding the product breaks the rule
pub rounded_breaks : AreTenths thirty_five (rounded_tenths thirty_five) → ⊥
rounded_breaks h =
    let same : rounded_tenths thirty_five ≡ tenths thirty_five = tenths_only thirty_five (rounded_tenths thirty_five) h in
    let never : ◌≡◌ {A = ℕ} 0 1 = cc (thirty_five_lem, thirty_five_rounded) in
    omega arith
