-- What the checks give, and what callers of a table share.
-- Assumes nothing.
use Rattle.std.specs.Prelude.{◌≡◌, Bool, false, not, ◌||◌, cond, ℕ, ◌≤◌, ◌<◌, T, eqb, ltb, set}
use Rattle.refusals.specs.Refusals.{Verdict}
use Rattle.rules.specs.Table.{Problem, between, strays, job_strays, undoes}
use Rattle.rules.specs.Premises.{InOrder}
use Rattle.tables.specs.declared.Action.{Action}
use Rattle.tables.specs.declared.Loaded.{Loaded}
use Rattle.tables.specs.declared.Ask.{Ask}
use Rattle.tables.specs.declared.Answer.{Answer}
use Rattle.tables.specs.Tables.{answer_of, job_at, problem}

-- the table with another job i
abbrev pub with_job : Loaded → ℕ → Action → Loaded
with_job l i a = record { jobs = set l.jobs i a; lent = l.lent }

-- the test r is t, and where it fails A is so
pub record Tests (t : Bool) (A : Type 0) (r : Bool) : Type 0 where
  pub says : r ≡ t
  pub fails : r ≡ false → A

-- the answer says the verdict, and where it accepts A is so
pub record Judges (v : Verdict) (A : Type 0) (r : Answer) : Type 0 where
  pub says : r ≡ answer_of v 0 0
  pub order : r.number ≡ 0 → A

-- no job of the table has a release over 2,880
abbrev pub Released : Loaded → Ask → Type 0
Released l q = (i : ℕ) → i < q.jobs → (job_at l i).release ≤ 2880

-- what checks 3 to 9 and 20 give where they accept
pub record Cleared (short : Bool) (bound : ℕ) (l : Loaded) (q : Ask) : Type 0 where
  pub room : T short → ⊥
  pub few : q.jobs ≤ 24
  pub order : InOrder (problem l q)
  pub released : Released l q
  pub within : bound ≤ 2880

-- what checks 6, 20, 7 and 8 look for in job i
abbrev pub job_fails : (check : ℕ) → Problem → ℕ → Bool
job_fails check P i =
    cond (eqb check 6) (not (between 1 960 (P.duration i)))
    (cond (eqb check 20) (ltb 2880 (P.release i)) (cond (eqb check 7) (job_strays P i) (undoes P i)))

-- a record has a fact at or above the atom count
abbrev pub stray_record : (atoms : ℕ) → Action → Bool
stray_record atoms a = strays atoms a.conditions || (strays atoms a.additions || strays atoms a.deletions)
