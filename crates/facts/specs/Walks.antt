-- A walk over the facts of a word, from the lowest on.
-- Assumes nothing.
use Rattle.std.specs.Prelude.{◌≡◌, ◌⊎◌, ℕ, ◌<◌, T, MatchOption, Option}
use Rattle.facts.specs.Facts.{has}
use Rattle.facts.specs.Least.{least}

-- r is the word w of k digits without its lowest fact
pub record Walk (k w r : ℕ) : Type 0 where
  pub less : r < w
  pub of : (p : ℕ) → T (has r p) → T (has w p)
  pub rest : (p : ℕ) → T (has w p) → (p ≡ least (has w) k) ⊎ T (has r p)

-- a step of a walk over the word w: it is at its end, or comes to the lowest fact and has the word r left
abbrev pub Comes : (w : ℕ) → Option ℕ → (r : ℕ) → Type 0
Comes w found r = MatchOption found (w ≡ 0) (λ p. (0 < w) × (p ≡ least (has w) 64) × Walk 64 w r)
