-- What the contracts of the check of a turn cite.
-- Assumes nothing.
use Rattle.std.specs.Prelude.{◌≡◌, ◌⊎◌, List, ℕ, ◌<◌, T, ⊤, Option, MatchOption}
use Rattle.facts.specs.Facts.{has}
use Rattle.rules.specs.Premises.{InOrder}
use Rattle.tables.specs.Tables.{job_at, problem}
use Rattle.tables.specs.declared.Action.{Action}
use Rattle.tables.specs.declared.Loaded.{Loaded}
use Rattle.tables.specs.declared.Ask.{Ask}
use Rattle.entries.specs.Entries.{entry}
use Rattle.states.specs.State.{Leads}
use Rattle.turns.specs.declared.Guess.{Guess}

-- ── facts ──

-- a fact takes the place of p, and p its place
pub record Inverse (fact : List ℕ) (p : ℕ) : Type 0 where
  pub below : entry fact p < 64
  pub again : entry fact (entry fact p) ≡ p

-- so it is for the facts below n
abbrev pub AllInverse : List ℕ → ℕ → Type 0
AllInverse fact n = (p : ℕ) → p < n → Inverse fact p

-- r is the word w with the fact that takes the place of p
pub record Moved (fact : List ℕ) (p w r : ℕ) : Type 0 where
  pub keeps : (i : ℕ) → T (has w i) → T (has r i)
  pub of : (i : ℕ) → T (has r i) → T (has w i) ⊎ (i ≡ entry fact p)
  pub at : entry fact p < 64 → T (has r (entry fact p))

-- the fact i takes the place of a fact of w
pub record Stems (fact : List ℕ) (w i : ℕ) : Type 0 where
  pub p : ℕ
  pub below : p < 64
  pub in? : T (has w p)
  pub is : i ≡ entry fact p

-- v holds the facts that take the places of those of w
pub record Image (fact : List ℕ) (w v : ℕ) : Type 0 where
  pub of : (i : ℕ) → T (has v i) → Stems fact w i
  pub at : (p : ℕ) → T (has w p) → entry fact p < 64 → T (has v (entry fact p))

-- ── jobs ──

-- job b takes as long as job a and has the same release
pub record SameTimes (a b : Action) : Type 0 where
  pub duration : b.duration ≡ a.duration
  pub release : b.release ≡ a.release

-- job b is job a with other facts
pub record SameJob (a b : Action) (fact : List ℕ) : Type 0 where
  pub conditions : Image fact a.conditions b.conditions
  pub additions : Image fact a.additions b.additions
  pub deletions : Image fact a.deletions b.deletions
  pub times : SameTimes a b

-- a job below n takes the place of j, and j its place
pub record TurnsJob (l : Loaded) (n : ℕ) (g : Guess) (j : ℕ) : Type 0 where
  pub below : entry g.to j < n
  pub again : entry g.to (entry g.to j) ≡ j
  pub same : SameJob (job_at l j) (job_at l (entry g.to j)) g.fact

-- so it is for the jobs below k
abbrev pub TurnsBelow : Loaded → (n : ℕ) → Guess → (k : ℕ) → Type 0
TurnsBelow l n g k = (j : ℕ) → j < k → TurnsJob l n g j

-- ── who leads ──

-- the jobs below i stay, and j takes i's place
pub record MovesTo (to : List ℕ) (i j : ℕ) : Type 0 where
  pub still : (x : ℕ) → x < i → entry to x ≡ x
  pub there : entry to i ≡ j

-- m leads n in the first plan of the table within any bound
abbrev pub Leader : Loaded → Ask → (m n : ℕ) → Type 0
Leader l q m n = InOrder (problem l q) → (bound : ℕ) → Leads (record { problem = problem l q; bound = bound }) m n

-- what was found is a job that m leads
abbrev pub Follower : Loaded → Ask → (m : ℕ) → Option ℕ → Type 0
Follower l q m found = MatchOption found ⊤ (λ r. (r < 24) × Leader l q m r)
