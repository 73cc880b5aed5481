-- `tenths::floor_times` meets its contract: the bits tell the parts (`worked`). Assumes nothing.
use mathlib.Core.Path.{sym, ◌∙◌, subst}
use Prim.Native.Nat.{◌^◌}
use native.Mathlib.Nat.{lt_of_le_of_lt}
use lib.Dec.{T}
use lib.Signed.{shr_z, mag_shr}
use mir.Syntax.{w64}
use mir.ValLaws.{to_z-of_z}
use Rattle.tenths.proofs.Parts.{worked}
use Rattle.tenths.proofs.Range.{no_nan}
use Rattle.tenths.proofs.floor_times.Goals as goal

pub float_to_bits-bits : goal.float_to_bits-bits
float_to_bits-bits c = no_nan c.args.x c.requires.1

pub returns : goal.returns
returns c =
    rw (to_z-of_z w64 c.give_sign-n.result (record { sfits = c.give_sign-n.type_inv }))
    (to_z-of_z w64 (shr_z c.give_sign-n.result (2 ^ c.drop.result)) (record { sfits = lt_of_le_of_lt (mag_shr c.give_sign-n.result (2 ^ c.drop.result)) c.give_sign-n.type_inv })
    ∙ rw (c.give_sign-n.ensures, c.drop.ensures, c.digits.ensures) (worked c.args.c c.args.x (subst T (sym c.well_formed.1.0.1) tt) c.requires.1 c.requires.0))
