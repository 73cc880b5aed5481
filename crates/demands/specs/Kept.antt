-- Demand 3 read off the bytes that the calls for supports and binding pairs have written.
-- Assumes nothing.
use Rattle.std.specs.Prelude.{◌≡◌, ◌↔◌, false, List, [], ◌∷◌, ℕ, ◌+◌, ◌*◌, ◌≤◌, ◌<◌, eqb, length, get_or}
use Rattle.rules.specs.Table.{Problem}
use Rattle.rules.specs.Plans.{Plan, starts, In}
use Rattle.rules.specs.Supports.{wants, whose_row}
use Rattle.rules.specs.Execution.{began, finished, Log, Logged, MayFinish, Complete, Conditions, AsPlanned}
use Rattle.tables.specs.declared.Loaded.{Loaded}
use Rattle.tables.specs.declared.Ask.{Ask}
use Rattle.tables.specs.declared.Answer.{Answer}
use Rattle.tables.specs.Tables.{problem}
use Rattle.verdict.specs.Offered.{ChecksPlan}
use Rattle.bindings.specs.Bindings.{InBytes, BindsIn, Supports, Pairs}

-- a job of the plan may start once, when the first job of each pair listed with it has finished
pub record MayStartBy (P : Problem) (s : Plan) (bytes : List ℕ) (n : ℕ) (h : Log) (j : ℕ) : Type 0 where
  pub there : In P s j
  pub once : Logged (began j) h → ⊥
  pub free : (a : ℕ) → InBytes bytes n a j → Logged (finished a) h

-- each event of the log was allowed when it came, by the n pairs of the bytes
abbrev pub AllowedBy : Problem → Plan → (bytes : List ℕ) (n : ℕ) → Log → Type 0
AllowedBy P s bytes n [] = Unit {0}
AllowedBy P s bytes n (began j ∷ h) = MayStartBy P s bytes n h j × AllowedBy P s bytes n h
AllowedBy P s bytes n (finished j ∷ h) = MayFinish h j × AllowedBy P s bytes n h

-- whatever moments the foreman chooses, if the pairs of the bytes keep their order: conditions hold while the house is still working, and when all
-- jobs have finished all is as planned; there is such a log, and the pairs of the bytes are exactly the binding pairs
pub record Foreman (P : Problem) (bound : ℕ) (s : Plan) (bytes : List ℕ) (n : ℕ) : Type 0 where
  pub working : (h : Log) → AllowedBy P s bytes n h → Conditions P s h
  pub whole : (h : Log) → AllowedBy P s bytes n h → Complete P s h → AsPlanned P bound s h
  pub some : (h : Log) × AllowedBy P s bytes n h × Complete P s h
  pub exact : (a b : ℕ) → InBytes bytes n a b ↔ BindsIn P s a b

-- every condition and every goal has a support in the bytes: 255 says no condition or out, and nothing else
abbrev pub Backing : Problem → Plan → (bytes : List ℕ) → Type 0
Backing P s bytes = (b p : ℕ) → b ≤ P.count → p < 64 → (get_or bytes (64 * b + p) 0 ≡ 255) ↔ (wants P s (whose_row (eqb b P.count) b) p ≡ false)

-- the plan s is accepted as it stands by all three calls that take one, and what they write is demand 3's
pub record Usable (l : Loaded) (q : Ask) (s : List ℕ) : Type 0 where
  pub checks : (r : Answer) → ChecksPlan l q s r → r.number ≡ 0
  pub supports : (old new : List ℕ) (r : Answer) → 64 * (q.jobs + 1) ≤ length old → Supports l q s old new r → (r.number ≡ 0) × Backing (problem l q) (starts s) new
  pub pairs : (old new : List ℕ) (r : Answer) → 552 ≤ length old → Pairs l q s old new r → (r.number ≡ 0) × Foreman (problem l q) q.bound (starts s) new r.value

-- the same numbers with another bound
abbrev pub with_bound : Ask → (bound : ℕ) → Ask
with_bound q b = record { jobs = q.jobs; atoms = q.atoms; opening = q.opening; goals = q.goals; bound = b; set = q.set; pairs = q.pairs }
