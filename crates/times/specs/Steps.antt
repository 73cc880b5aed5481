-- Least starts that keep ordered pairs of jobs, none before its release, and what the steps towards them promise.
-- Assumes nothing.
use Rattle.std.specs.Prelude.{◌≡◌, cond, Option, MatchOption, List, ℕ, ◌+◌, ◌/◌, ◌≤◌, ◌<◌, max, T, length}
use Rattle.facts.specs.Facts.{has}
use Rattle.rules.specs.Table.{Problem}
use Rattle.rules.specs.Premises.{Below}
use Rattle.rules.specs.Plans.{Plan, finish}
use Rattle.rules.specs.Settling.{Asked, Obeys, Settled}
use Rattle.tables.specs.declared.Loaded.{Loaded}
use Rattle.tables.specs.declared.Ask.{Ask}
use Rattle.tables.specs.Tables.{job_at, problem}
use Rattle.entries.specs.Entries.{entry}
use Rattle.times.specs.Times.{pair_first, pair_second, wanted}

-- the set names jobs of the table, and every pair two jobs of the set
pub record Ready (q : Ask) (bytes : List ℕ) : Type 0 where
  pub few : q.jobs ≤ 24
  pub lent : q.pairs ≤ length bytes / 2
  pub named : Below q.jobs q.set
  pub paired : (k : ℕ) → k < q.pairs → T (has q.set (pair_first bytes k)) × T (has q.set (pair_second bytes k))

-- the settled starts, or that there are none
abbrev pub Solved : Problem → Asked → Option (List ℕ) → Type 0
Solved P a r = MatchOption r ((y : Plan) → Obeys P a y → ⊥) (λ s. Settled P a (entry s))

-- ── the steps ──

-- the jobs below k begin at their release, or are out
abbrev pub Begins : Loaded → Ask → (starts : List ℕ) → ℕ → Type 0
Begins l q starts k = (j : ℕ) → j < k → entry starts j ≡ cond (has q.set j) (job_at l j).release 65535

-- the jobs of the set below k end by the bound
abbrev pub EndInTime : Loaded → Ask → Plan → ℕ → Type 0
EndInTime l q t k = (j : ℕ) → j < k → T (has q.set j) → finish (problem l q) t j ≤ q.bound

-- no job of the set starts later than in y
abbrev pub Under : Ask → (t y : Plan) → Type 0
Under q t y = (j : ℕ) → j < q.jobs → T (has q.set j) → t j ≤ y j

-- job b, which is `long`, starts at x or later, unless it would then end after the bound
abbrev pub Pushes : (t : List ℕ) → (b x long bound : ℕ) → Option ℕ → Type 0
Pushes t b x long bound r = (b < length t) × MatchOption r (bound < x + long) (λ y. (y ≡ max (entry t b) x) × (x + long ≤ bound))

-- s is t with starts of the set pushed on: those end by the bound, and none is later than in any starts that keep what is asked
pub record Pushed (l : Loaded) (q : Ask) (bytes : List ℕ) (t s : Plan) : Type 0 where
  pub later : (j : ℕ) → j < q.jobs → t j ≤ s j
  pub ends : (j : ℕ) → j < q.jobs → t j < s j → finish (problem l q) s j ≤ q.bound
  pub out : (j : ℕ) → (T (has q.set j) → ⊥) → s j ≡ t j
  pub under : (y : Plan) → Obeys (problem l q) (wanted l q bytes) y → Under q t y → Under q s y

-- in s the second job of each pair below k starts the gap after the first finishes in t, or later
abbrev pub Behind : Loaded → Ask → (bytes : List ℕ) → (t s : Plan) → ℕ → Type 0
Behind l q bytes t s k = (i : ℕ) → i < k → finish (problem l q) t (pair_first bytes i) + (problem l q).gap ≤ s (pair_second bytes i)

-- none of the starts that keep what is asked has t under it
abbrev pub NoneUnder : Loaded → Ask → (bytes : List ℕ) → Plan → Type 0
NoneUnder l q bytes t = (y : Plan) → Obeys (problem l q) (wanted l q bytes) y → Under q t y → ⊥

-- a round from t
abbrev pub Round : Loaded → Ask → (bytes : List ℕ) → (t : Plan) → Option (List ℕ) → Type 0
Round l q bytes t r = MatchOption r (NoneUnder l q bytes t) (λ s. Pushed l q bytes t (entry s) × Behind l q bytes t (entry s) q.pairs)

-- all rounds from t
abbrev pub Rounds : Loaded → Ask → (bytes : List ℕ) → (t : Plan) → Option (List ℕ) → Type 0
Rounds l q bytes t r = MatchOption r (NoneUnder l q bytes t) (λ s. Pushed l q bytes t (entry s) × Behind l q bytes (entry s) (entry s) q.pairs)
