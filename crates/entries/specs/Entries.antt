-- Numbers by job, as a list of them.
-- Assumes nothing.
use Rattle.std.specs.Prelude.{◌≡◌, List, ℕ, ◌<◌, get_or}

-- the number of job i
abbrev pub entry : List ℕ → ℕ → ℕ
entry l i = get_or l i 0

-- the first n numbers are the same
abbrev pub Same : (a b : List ℕ) → ℕ → Type 0
Same a b n = (i : ℕ) → i < n → entry a i ≡ entry b i
