-- What the steps towards the latest finish promise.
-- Assumes nothing.
use Rattle.std.specs.Prelude.{◌≡◌, ◌↔◌, Bool, ◌&&◌, List, ℕ, ◌/◌, ◌≤◌, ◌<◌, T, ltb, length, replicate}
use Rattle.facts.specs.Words.{Word}
use Rattle.rules.specs.Table.{Problem}
use Rattle.rules.specs.Premises.{InOrder}
use Rattle.rules.specs.Plans.{Plan, starts, in_plan, finish, Valid}
use Rattle.rules.specs.Settling.{Asked, Obeys}
use Rattle.rules.specs.Lateness.{IsGreatest}
use Rattle.tables.specs.declared.Loaded.{Loaded}
use Rattle.tables.specs.declared.Action.{Action}
use Rattle.tables.specs.declared.Ask.{Ask}
use Rattle.tables.specs.Tables.{problem}
use Rattle.verdict.specs.Steps.{Given}
use Rattle.bindings.specs.Bindings.{InBytes, BindsIn}

-- the last finish of a job of the set, of the first n
abbrev pub LastOf : Problem → (set : ℕ → Bool) → (z : Plan) → (n r : ℕ) → Type 0
LastOf P set z n r = IsGreatest (λ m. (j : ℕ) × (j < n) × T (set j) × (finish P z j ≡ m)) r

-- some starts keep what is asked
abbrev pub Keepable : Problem → Asked → Type 0
Keepable P q = (y : Plan) × Obeys P q y

-- the record of a job that takes so long, from the first on and with no facts
abbrev pub plain : (duration : ℕ) → Action
plain d = record { conditions = 0; additions = 0; deletions = 0; duration = d; release = 0 }

-- a table of such jobs
abbrev pub even_table : (duration : ℕ) → Loaded
even_table d = record { jobs = replicate 24 (plain d); lent = 24 }

-- the numbers of a settling of the set by so many pairs, with this atom count
abbrev pub asked_of : Ask → (atoms set pairs : ℕ) → Ask
asked_of q atoms set pairs = record { jobs = q.jobs; atoms = atoms; opening = q.opening; goals = q.goals; bound = q.bound; set = set; pairs = pairs }

-- what the checks leave of a plan
pub record Runnable (l : Loaded) (q : Ask) (s : List ℕ) : Type 0 where
  pub given : Given q s
  pub order : InOrder (problem l q)
  pub within : q.bound ≤ 2880
  pub valid : Valid (problem l q) q.bound (starts s)

-- the bytes hold the binding pairs, n of them, and the word the jobs of the plan
pub record Listing (l : Loaded) (q : Ask) (s bytes : List ℕ) (n set : ℕ) : Type 0 where
  pub exact : (a b : ℕ) → InBytes bytes n a b ↔ BindsIn (problem l q) (starts s) a b
  pub lent : n ≤ length bytes / 2
  pub jobs : Word (λ j. ltb j q.jobs && in_plan (starts s) j) set

-- those of some plan
abbrev pub SomeListing : Loaded → Ask → (bytes : List ℕ) (n set : ℕ) → Type 0
SomeListing l q bytes n set = (s : List ℕ) × Runnable l q s × Listing l q s bytes n set
