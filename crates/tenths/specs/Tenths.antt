-- Tenths of a 64-bit float, stated over whole numbers. Definitions only.
use Rattle.std.specs.Prelude.{◌≡◌, ℕ, suc, ◌+◌, ◌-◌, ◌*◌, ◌^◌, ◌≤◌, Bool, true, false, cond, leb, ℤ, pos, negsuc, neg_ℤ, nat_abs, ◌+ℤ◌, ◌-ℤ◌, ◌*ℤ◌, ◌≤ℤ◌, Float}
use Rattle.std.specs.Int.Signed.{shr_z}
use Rattle.std.specs.Float.{nan, inf, fin}
use Rattle.tenths.specs.declared.Measured.{Measured}

-- 2 ^ 1074 parts make one
abbrev pub one : ℕ
one = 2 ^ 1074

-- half as many make a half
abbrev pub half_one : ℕ
half_one = 2 ^ 1073

-- a size with its sign, true for negative
abbrev pub signed : Bool → ℕ → ℤ
signed true n = neg_ℤ (pos n)
signed false n = pos n

-- m * 2 ^ e in parts; a 64-bit float has no e below -1074
abbrev pub parts_in : ℕ → ℤ → ℕ
parts_in m (pos k) = m * 2 ^ (1074 + k)
parts_in m (negsuc k) = m * 2 ^ (1074 - suc k)

-- the exact value of a finite float in parts; no rule reads that of any other
unfoldable pub parts : Float → ℤ
parts nan = pos 0
parts (inf s) = pos 0
parts (fin s m e) = signed s (parts_in m e)

-- finite and from -100 to 100: at most 100 in size
unfoldable pub in_range : Float → Bool
in_range nan = false
in_range (inf s) = false
in_range (fin s m e) = leb (parts_in m e) (100 * one)

-- how many parts n parts are from t whole ones
abbrev pub far_from : (n t : ℤ) → ℕ
far_from n t = nat_abs (n -ℤ t *ℤ pos one)

-- t is the nearest whole number to n parts, halves going up: none is nearer, and none as near is higher
pub record IsNearest (n t : ℤ) : Type 0 where
  pub none_nearer : (u : ℤ) → far_from n t ≤ far_from n u
  pub none_higher : (u : ℤ) → far_from n u ≡ far_from n t → u ≤ℤ t

-- ten times the exact value, in parts
unfoldable pub tenfold : Float → ℤ
unfolding parts
tenfold x = pos 10 *ℤ parts x

-- t are the tenths of x: the nearest whole number to ten times its exact value, halves going up
abbrev pub AreTenths : Float → ℤ → Type 0
AreTenths x t = IsNearest (tenfold x) t

-- the nearest whole number, computed: a half is added, and `shr_z n d` is n / d rounded down
abbrev pub nearest : ℤ → ℤ
nearest n = shr_z (n +ℤ pos half_one) one

-- the tenths, computed
unfoldable pub tenths : Float → ℤ
unfolding tenfold
tenths x = nearest (tenfold x)

-- what measuring a float gives: whether it is in range, and its tenths, 0 if it is not
abbrev pub measured : Float → Measured
measured x = record { in_range = in_range x; tenths = cond (in_range x) (tenths x) (pos 0) }
