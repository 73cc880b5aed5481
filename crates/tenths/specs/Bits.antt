-- How the code gets at the value from the bits. Cited by private functions only: nobody has to believe it. Definitions only.
use Rattle.std.specs.Prelude.{ℕ, ◌+◌, ◌-◌, ◌*◌, ◌/◌, ◌%◌, ◌^◌, min, ℤ, pos, ◌*ℤ◌, Float}
use Rattle.std.specs.Int.Signed.{shr_z}
use Rattle.tenths.specs.Tenths.{one, parts}

-- the exponent's field of a pattern
abbrev pub field : ℕ → ℕ
field b = b % 2 ^ 63 / 2 ^ 52

-- a finite pattern stands for digits_of b * 2 ^ place_of b parts
abbrev pub digits_of : ℕ → ℕ
digits_of b = b % 2 ^ 52 + min (field b) 1 * 2 ^ 52

-- the place of its lowest digit
abbrev pub place_of : ℕ → ℕ
place_of b = field b - 1

-- how many places lie below one, 63 standing for all above it
abbrev pub drop_of : ℕ → ℕ
drop_of b = min 63 (1074 - place_of b)

-- c times the value of a float, rounded down
unfoldable pub floor_times : ℕ → Float → ℤ
unfolding parts
floor_times c x = shr_z (pos c *ℤ parts x) one
