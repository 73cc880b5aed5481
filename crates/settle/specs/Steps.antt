-- What the checks of settling leave, and what is said of starts by value.
-- Assumes nothing.
use Rattle.std.specs.Prelude.{◌≡◌, ◌||◌, List, ℕ, ◌/◌, ◌≤◌, ◌<◌, ltb, length, Result, MatchResult}
use Rattle.refusals.specs.Refusals.{Verdict, accepted, refused}
use Rattle.rules.specs.Plans.{Plan}
use Rattle.rules.specs.Settling.{Obeys, Settled}
use Rattle.tables.specs.declared.Loaded.{Loaded}
use Rattle.tables.specs.declared.Ask.{Ask}
use Rattle.tables.specs.declared.Answer.{Answer}
use Rattle.tables.specs.Tables.{problem, answer_of}
use Rattle.tables.specs.Steps.{Cleared}
use Rattle.entries.specs.Entries.{entry}
use Rattle.times.specs.Times.{wanted}
use Rattle.times.specs.Steps.{Ready}
use Rattle.settle.specs.Settle.{settling_checks}

-- what is so where they accept
pub record Settleable (l : Loaded) (q : Ask) (bytes : List ℕ) (room : ℕ) : Type 0 where
  pub clear : Cleared (ltb room q.jobs || ltb (length bytes / 2) q.pairs) q.bound l q
  pub ready : Ready q bytes
  pub wide : q.jobs ≤ room

-- the starts by value: the checks accept, and they are settled
pub record SettledAs (l : Loaded) (q : Ask) (bytes : List ℕ) (room : ℕ) (s : List ℕ) : Type 0 where
  pub checks : settling_checks l q bytes room accepted ≡ accepted
  pub settled : Settled (problem l q) (wanted l q bytes) (entry s)

-- a refusal: by the checks, or by 16 behind them, where no starts keep what is asked
pub record Refuses (l : Loaded) (q : Ask) (bytes : List ℕ) (room : ℕ) (a : Answer) : Type 0 where
  pub v : Verdict
  pub behind : settling_checks l q bytes room accepted ≡ accepted → (v ≡ refused 16 0) × ((y : Plan) → Obeys (problem l q) (wanted l q bytes) y → ⊥)
  pub says : a ≡ answer_of (settling_checks l q bytes room v) 0 0
  pub above : 0 < a.number

-- one of the two
abbrev pub Settlements : Loaded → Ask → (bytes : List ℕ) → (room : ℕ) → Result (List ℕ) Answer → Type 0
Settlements l q bytes room r = MatchResult r (SettledAs l q bytes room) (Refuses l q bytes room)
