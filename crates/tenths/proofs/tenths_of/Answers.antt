-- `tenths::tenths_of` meets its contract: ten times the value and a half, from twenty times the value (`halved`), at most 2,001 in size on the way. Assumes nothing.
use mathlib.Core.Path.{◌≡◌, sym, ◌∙◌, subst}
use Prim.Native.Nat.{◌≤◌}
use native.Mathlib.Nat.{le_trans, lt_of_le_of_lt, le_refl, add-le-add}
use lib.Dec.{lit<}
use lib.IntN.{ℤ, pos, ◌+ℤ◌}
use lib.Signed.{shr_z, mag, mag_shr}
use mir.Syntax.{w16, w64}
use mir.Val.{SFits, to_z, of_z}
use mir.ValLaws.{to_z-of_z}
use Rattle.tenths.proofs.Whole.{mag_more}
use Rattle.tenths.proofs.Parts.{floor_small, halved}
use Rattle.tenths.proofs.tenths_of.Goals.{After-floor_times}
use Rattle.tenths.proofs.tenths_of.Goals as goal

twenty_and_one : (c : After-floor_times) → mag (c.floor_times.result +ℤ pos 1) ≤ 2001
twenty_and_one c =
    let twenty : mag c.floor_times.result ≤ 2000 = rw c.floor_times.ensures (floor_small 20 c.args.x c.requires) in
    le_trans (mag_more c.floor_times.result 1) (add-le-add twenty (le_refl 1))

half_of_it : (c : After-floor_times) → mag (shr_z (c.floor_times.result +ℤ pos 1) 2) ≤ 2001
half_of_it c = le_trans (mag_shr (c.floor_times.result +ℤ pos 1) 2) (twenty_and_one c)

times_back : (c : After-floor_times) → to_z w64 (of_z w64 c.floor_times.result) ≡ c.floor_times.result
times_back c = to_z-of_z w64 c.floor_times.result (record { sfits = c.floor_times.type_inv })

pub overflow_add-result : goal.overflow_add-result
overflow_add-result c = rw (times_back c) (record { sfits = lt_of_le_of_lt (twenty_and_one c) (lit< tt) })

-- what is cast: half of it, rounded down
cast_is : (c : After-floor_times) → to_z w64 (of_z w64 (shr_z (to_z w64 (of_z w64 (to_z w64 (of_z w64 c.floor_times.result) +ℤ pos 1))) 2)) ≡ shr_z (c.floor_times.result +ℤ pos 1) 2
cast_is c =
    rw (times_back c, to_z-of_z w64 (c.floor_times.result +ℤ pos 1) (record { sfits = lt_of_le_of_lt (twenty_and_one c) (lit< tt) }))
    (to_z-of_z w64 _ (record { sfits = lt_of_le_of_lt (half_of_it c) (lit< tt) }))

pub overflow_cast-result : goal.overflow_cast-result
overflow_cast-result c = subst (λ (z : ℤ). SFits w16 z) (sym (cast_is c)) (record { sfits = lt_of_le_of_lt (half_of_it c) (lit< tt) })

pub returns : goal.returns
returns c =
    rw (cast_is c)
    (to_z-of_z w16 (shr_z (c.floor_times.result +ℤ pos 1) 2) (record { sfits = lt_of_le_of_lt (half_of_it c) (lit< tt) })
    ∙ rw c.floor_times.ensures (halved c.args.x))
