-- A text put somewhere into lent bytes.
-- Assumes nothing.
use Rattle.std.specs.Prelude.{◌≡◌, List, ℕ, ◌+◌, ◌≤◌, length}
use Rattle.bytes_le.specs.Little.{laid}

-- the text, of so many letters at most, is laid from the place `at` on, every other byte is as it was, and r is the next place
pub record Lays (most : ℕ) (text : List ℕ) (at : ℕ) (before after : List ℕ) (r : ℕ) : Type 0 where
  pub next : r ≡ at + length text
  pub fits : length text ≤ most
  pub bytes : after ≡ laid text at before

-- the same of a text that is A
pub record LaysSome (A : List ℕ → Type 0) (most : ℕ) (before after : List ℕ) (r : ℕ) : Type 0 where
  pub text : List ℕ
  pub is : A text
  pub lays : Lays most text 0 before after r
