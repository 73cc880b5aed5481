-- How long a group of jobs keeps others away, and where it stands.
-- Assumes nothing.
use Rattle.std.specs.Prelude.{◌⊎◌, List, ℕ, ◌≤◌, ◌<◌, T, get_or}
use Rattle.facts.specs.Facts.{has}
use Rattle.cells.specs.View.{view}
use Rattle.lent.specs.Lent.{wait_of}

-- ── how long a group keeps others away ──

-- b is surely not behind a, or by the table at least x behind its start
abbrev pub KeptOff : (s L : List ℕ) (a x b : ℕ) → Type 0
KeptOff s L a x b = T ((view s).never a b) ⊎ (x ≤ wait_of L a b)

-- job a keeps every job of the word away for x
abbrev pub AllKeptOff : (s L : List ℕ) (w a x : ℕ) → Type 0
AllKeptOff s L w a x = (b : ℕ) → T (has w b) → b < 24 → KeptOff s L a x b

-- r is no more than m, and a keeps b away for r
pub record KeepsFor (s L : List ℕ) (a b m r : ℕ) : Type 0 where
  pub less : r ≤ m
  pub kept : b < 24 → KeptOff s L a r b

-- and it keeps every job of the word away
pub record KeepsAllFor (s L : List ℕ) (w a m r : ℕ) : Type 0 where
  pub less : r ≤ m
  pub kept : a < 24 → AllKeptOff s L w a r

-- every job of the group keeps those of the word outside it away for x
abbrev pub KeepsAway : (s L : List ℕ) (w group x : ℕ) → Type 0
KeepsAway s L w g x = (a b : ℕ) → T (has g a) → a < 24 → T (has w b) → (T (has g b) → ⊥) → b < 24 → KeptOff s L a x b

-- so do the first n groups
abbrev pub AllKeepAway : (s L : List ℕ) (w : ℕ) (words long : List ℕ) (n : ℕ) → Type 0
AllKeepAway s L w words long n = (a : ℕ) → a < n → KeepsAway s L w (get_or words a 0) (get_or long a 0)

-- ── where a group stands ──

-- every job of the group starts at x or earlier
abbrev pub Latest : List ℕ → (group x : ℕ) → Type 0
Latest s g x = (a : ℕ) → T (has g a) → a < 24 → (view s).hi a ≤ x
