-- What an accepted plan gives, and what the steps of the verdict promise.
-- Assumes nothing.
use Rattle.std.specs.Prelude.{Bool, not, ◌||◌, List, ℕ, ◌+◌, ◌≤◌, ◌<◌, T, eqb, ltb, length}
use Rattle.facts.specs.Words.{Word}
use Rattle.rules.specs.Table.{Problem}
use Rattle.rules.specs.Plans.{Plan, starts, In, finish, holds, Valid}
use Rattle.tables.specs.declared.Loaded.{Loaded}
use Rattle.tables.specs.declared.Ask.{Ask}
use Rattle.tables.specs.Tables.{problem}
use Rattle.tables.specs.Steps.{Cleared}

-- what is so of an accepted plan
pub record Sound (short : Bool) (l : Loaded) (q : Ask) (s : List ℕ) : Type 0 where
  pub clear : Cleared (short || ltb (length s) q.jobs) q.bound l q
  pub room : T short → ⊥
  pub given : q.jobs ≤ length s
  pub valid : Valid (problem l q) q.bound (starts s)

-- at most 24 jobs, and a start for each
abbrev pub Given : Ask → List ℕ → Type 0
Given q s = (q.jobs ≤ 24) × (q.jobs ≤ length s)

-- the word w holds the facts at time t
abbrev pub FactsAt : Problem → Plan → ℕ → ℕ → Type 0
FactsAt P s t w = Word (λ p. holds P s p t) w

-- a job with this start is in the plan
abbrev pub start_in : ℕ → Bool
start_in start = not (eqb start 65535)

-- r is `best`, or earlier and still after `from`, and the job does not finish between `from` and r
pub record Nearer (start duration from best r : ℕ) : Type 0 where
  pub least : r ≤ best
  pub later : from < best → from < r
  pub free : T (start_in start) → from < start + duration → start + duration < r → ⊥

-- r is after `from` and at most `till`, and no job of the plan finishes between
pub record Next (P : Problem) (s : Plan) (from till r : ℕ) : Type 0 where
  pub least : r ≤ till
  pub later : from < r
  pub free : (i : ℕ) → In P s i → from < finish P s i → finish P s i < r → ⊥
