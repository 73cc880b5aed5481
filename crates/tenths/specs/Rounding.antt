-- A float by its pattern, and the error of rounding the product. Definitions only.
use Rattle.std.specs.Prelude.{ℕ, ℤ, Float}
use Rattle.std.specs.Float.{binary64}
use Rattle.std.specs.Float.Ieee.{of_bits, mul}
use Rattle.tenths.specs.Tenths.{parts, nearest}

-- the float of a pattern
unfoldable pub float : ℕ → Float
unfolding of_bits
float b = of_bits binary64 b

-- 0.35, which lies a hair below three tenths and a half
abbrev pub thirty_five : Float
thirty_five = float 0x3fd6_6666_6666_6666

-- the error: ten times the reading as a float, then the nearest whole number
unfoldable pub rounded_tenths : Float → ℤ
unfolding mul float parts
rounded_tenths x = nearest (parts (mul binary64 (float 0x4024_0000_0000_0000) x))
