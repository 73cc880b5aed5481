-- Numbers in bytes, little-endian: the lowest byte first. Bytes laid over a lent list.
-- Assumes nothing.
use Rattle.std.specs.Prelude.{List, [], ◌∷◌, ◌++◌, ℕ, zero, suc, ◌+◌, ◌*◌, ◌/◌, ◌%◌, length, get_or, take, drop}

-- the bytes of a number
unfoldable pub little : (size value : ℕ) → List ℕ
little zero v = []
little (suc k) v = v % 256 ∷ little k (v / 256)

-- the number that so many bytes make, from place `at` on
unfoldable pub number : (size : ℕ) → List ℕ → (at : ℕ) → ℕ
number zero xs at = 0
number (suc k) xs at = get_or xs at 0 + 256 * number k xs (suc at)

-- numbers one behind another, of each its size and its value
unfoldable pub fields : List (ℕ × ℕ) → List ℕ
fields [] = []
fields ((k, v) ∷ fs) = little k v ++ fields fs

-- the bytes w laid over the first places of a list; the rest is as it was
abbrev pub at_front : (w xs : List ℕ) → List ℕ
at_front w xs = w ++ drop (length w) xs

-- the same from place `at` on
abbrev pub laid : (w : List ℕ) (at : ℕ) (xs : List ℕ) → List ℕ
laid w at xs = take at xs ++ at_front w (drop at xs)
