-- What the contracts of functions that are handed a test cite.
-- Assumes nothing.
use Rattle.std.specs.Prelude.{◌≡◌, Bool, cond, ℕ, Option, Some, None}
use Rattle.facts.specs.Least.{least, any}

-- at i the test can only answer what f says
abbrev pub Agrees : (ℕ → Bool) → ℕ → (Bool → Type 0) → Type 0
Agrees f i answers = (b : Bool) → answers b → b ≡ f i

-- the lowest number below n that passes the test, if there is one
unfoldable pub some_least : (ℕ → Bool) → ℕ → Option ℕ
some_least f n = cond (any f n) (Some (least f n)) None
