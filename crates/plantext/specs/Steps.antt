-- What the steps of reading a text promise.
-- Assumes nothing.
use Rattle.std.specs.Prelude.{◌≡◌, List, ℕ, ◌+◌, ◌≤◌, max, length}
use Rattle.plantext.specs.Form.{number_end}

-- the number ends there, no more than five letters on or within the text
pub record NumberEnds (text : List ℕ) (at r : ℕ) : Type 0 where
  pub says : r ≡ number_end text at
  pub fits : r ≤ max (at + 5) (length text)
