-- What the steps of writing a plan's text ask for and put.
-- Assumes nothing.
use Rattle.std.specs.Prelude.{List, ℕ, ◌*◌, ◌≤◌, ◌<◌, eqb, length}
use Rattle.rules.specs.Table.{Problem}
use Rattle.rules.specs.Plans.{Plan}
use Rattle.tables.specs.declared.Ask.{Ask}
use Rattle.verdict.specs.Steps.{Given}
use Rattle.lines.specs.Lines.{text_if, starting_at}
use Rattle.lines.specs.Lays.{Lays}
use Rattle.plantext.specs.Writing.{step_line}

-- at most 24 jobs, with a start and 16 bytes of name for each
abbrev pub TextGiven : Ask → (names s : List ℕ) → Type 0
TextGiven q names s = Given q s × (16 * q.jobs ≤ length names)

-- the line of job j, where it starts at t
abbrev pub step_at : (names : List ℕ) → Problem → Plan → (t j : ℕ) → List ℕ
step_at names P s t j = text_if (eqb (s j) t) (step_line names P s j)

-- the lines of the jobs that start at t, by number
abbrev pub steps_at : (names : List ℕ) → Problem → Plan → (t : ℕ) → List ℕ
steps_at names P s = starting_at (step_line names P s) s P.count

-- the text is put from the place `at` on; the room that it takes is its own length
abbrev pub PutsText : (text : List ℕ) (at : ℕ) (before after : List ℕ) (r : ℕ) → Type 0
PutsText text = Lays (length text) text

-- r is from `from` on and at most `till`, and no job below n starts between
pub record NextStart (n : ℕ) (s : Plan) (from till r : ℕ) : Type 0 where
  pub least : r ≤ till
  pub later : from ≤ r
  pub free : (j : ℕ) → j < n → from ≤ s j → s j < r → ⊥
