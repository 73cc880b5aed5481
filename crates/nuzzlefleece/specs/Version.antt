-- Which version of the library this is.
-- Assumes nothing.
use Rattle.std.specs.Prelude.{ℕ}

-- 1.10.0, as the header has it
abbrev pub version : ℕ
version = 11000
