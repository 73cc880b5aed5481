-- What the steps of reading a text promise.
-- Assumes nothing.
use Rattle.std.specs.Prelude.{◌≡◌, List, ℕ, ◌≤◌, ◌<◌, length, get_or, Result, MatchResult}
use Rattle.refusals.specs.Refusals.{accepted}
use Rattle.rules.specs.Table.{Problem}
use Rattle.tables.specs.declared.Answer.{Answer}
use Rattle.tables.specs.Tables.{answer_of}
use Rattle.plantext.specs.Reading.{line_at, plan_said, lines_read, text_checks}

-- line k stands at `at`, within the text, and the starts by value are those that the lines before it say
pub record AtLine (P : Problem) (names text : List ℕ) (k at : ℕ) (starts : List ℕ) : Type 0 where
  pub place : at ≡ line_at text k
  pub within : at ≤ length text
  pub said : (j : ℕ) → j < P.count → get_or starts j 0 ≡ plan_said P names text k j

-- the starts that the lines say, where all lines are good; else the answer of the first bad line
abbrev pub SaysLines : Problem → (names text : List ℕ) → Result (List ℕ) Answer → Type 0
SaysLines P names text r =
    MatchResult r
    (λ starts. (text_checks P names text accepted ≡ accepted) × ((j : ℕ) → j < P.count → get_or starts j 0 ≡ plan_said P names text (lines_read P names text) j))
    (λ a. (a ≡ answer_of (text_checks P names text accepted) 0 0) × (a.number ≡ 0 → ⊥))
