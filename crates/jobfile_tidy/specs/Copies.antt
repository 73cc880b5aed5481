-- Bytes copied forwards, one after the other.
-- Assumes nothing.
use Rattle.std.specs.Prelude.{List, ℕ, zero, suc, ◌+◌, get_or, set}

-- the bytes from the place `from` on copied to the front, n of them: each is read as it stands when the ones before it are written
unfoldable pub forwards : (from n : ℕ) → List ℕ → List ℕ
forwards from zero xs = xs
forwards from (suc i) xs = set (forwards from i xs) i (get_or (forwards from i xs) (from + i) 0)
