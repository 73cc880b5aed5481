-- What the changes of a set of jobs and the looks into it promise.
-- Assumes nothing.
use Rattle.std.specs.Prelude.{◌≡◌, ◌⊎◌, ℕ, ◌<◌, T, ⊤, Option, MatchOption}
use Rattle.facts.specs.Facts.{has}

-- r is the word w, with job j more where A is so
pub record Noted (A : Type 0) (j w r : ℕ) : Type 0 where
  pub keeps : (i : ℕ) → T (has w i) → T (has r i)
  pub of : (i : ℕ) → T (has r i) → T (has w i) ⊎ ((i ≡ j) × (j < 24) × A)
  pub at : j < 24 → A → T (has r j)

-- d is the first job of w that is not in v
pub record FirstLack (w v d : ℕ) : Type 0 where
  pub below : d < 24
  pub here : T (has w d)
  pub lacks : T (has v d) → ⊥
  pub first : (i : ℕ) → i < d → T (has w i) → T (has v i)

-- what was found is that job, or there is none
abbrev pub Lack : (w v : ℕ) → Option ℕ → Type 0
Lack w v found = MatchOption found ((i : ℕ) → i < 24 → T (has w i) → T (has v i)) (FirstLack w v)

-- a is a job, and the only bit of w
pub record OnlyJob (w a : ℕ) : Type 0 where
  pub below : a < 24
  pub only : (i : ℕ) → T (has w i) → i ≡ a

-- what was found is that job
abbrev pub Single : ℕ → Option ℕ → Type 0
Single w found = MatchOption found ⊤ (OnlyJob w)
