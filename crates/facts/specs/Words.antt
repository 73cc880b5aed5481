-- What a word of facts holds, and what a test of words decides.
-- Assumes nothing.
use Rattle.std.specs.Prelude.{◌≡◌, Bool, true, false, ℕ, T}
use Rattle.facts.specs.Facts.{has}

-- the word w holds exactly the facts that pass f
abbrev pub Word : (ℕ → Bool) → ℕ → Type 0
Word f w = (p : ℕ) → has w p ≡ f p

-- every fact of want is in have
abbrev pub Covers : (have want : ℕ) → Type 0
Covers have want = (p : ℕ) → T (has want p) → T (has have p)

-- some fact is in both
abbrev pub Meets : ℕ → ℕ → Type 0
Meets a b = (p : ℕ) × T (has a p) × T (has b p)

-- the answer b says whether A is so
pub record Decides (b : Bool) (A : Type 0) : Type 0 where
  pub yea : b ≡ true → A
  pub nay : b ≡ false → A → ⊥
