-- What reading a number from bytes promises.
-- Assumes nothing.
use Rattle.std.specs.Prelude.{◌≡◌, List, ℕ, ◌^◌, ◌<◌, get_or}
use Rattle.bytes_le.specs.Little.{number}

-- the list holds bytes
abbrev pub Bytes : List ℕ → Type 0
Bytes xs = (i : ℕ) → get_or xs i 0 < 256

-- r is that number, and so many bytes hold it
pub record ReadsNumber (size : ℕ) (xs : List ℕ) (at r : ℕ) : Type 0 where
  pub says : r ≡ number size xs at
  pub fits : r < 256 ^ size
