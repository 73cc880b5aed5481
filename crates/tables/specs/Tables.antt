-- The table by value, the numbers asked with, and the answer; the checks 3 to 9 and 20 of a call.
-- Assumes nothing.
use Rattle.std.specs.Prelude.{◌≡◌, Bool, ◌||◌, cond, List, ℕ, zero, suc, ◌-◌, eqb, ltb, length, get_or, set, replicate}
use Rattle.refusals.specs.Refusals.{Verdict, accepted, refuse_if}
use Rattle.rules.specs.Table.{Problem, table_checks, bound_check}
use Rattle.tables.specs.declared.Action.{Action}
use Rattle.tables.specs.declared.Loaded.{Loaded}
use Rattle.tables.specs.declared.Ask.{Ask}
use Rattle.tables.specs.declared.Answer.{Answer}

-- what stands for a record where none lies
abbrev pub no_job : Action
no_job = record { conditions = 0; additions = 0; deletions = 0; duration = 0; release = 0 }

-- the record that lies at place i
abbrev pub record_at : List Action → ℕ → Action
record_at ts i = get_or ts i no_job

-- job i of the table
abbrev pub job_at : Loaded → ℕ → Action
job_at l i = record_at l.jobs i

-- an atom count taken apart: the count itself, and the gap that its rule asks for
pub record AtomCount : Type 0 where
  pub atoms : ℕ
  pub gap : ℕ

-- 128 added to the atom count marks rule 2, which asks for a gap of one quarter hour; rule 1 asks for none
unfoldable pub unmarked : ℕ → AtomCount
unmarked n = cond (ltb n 128) (record { atoms = n; gap = 0 }) (record { atoms = n - 128; gap = 1 })

-- the problem that the table and the numbers give
abbrev pub problem : Loaded → Ask → Problem
problem l q = record {
  count = q.jobs;
  conditions = λ i. (job_at l i).conditions;
  additions = λ i. (job_at l i).additions;
  deletions = λ i. (job_at l i).deletions;
  duration = λ i. (job_at l i).duration;
  release = λ i. (job_at l i).release;
  gap = (unmarked q.atoms).gap;
  atoms = (unmarked q.atoms).atoms;
  opening = q.opening;
  goals = q.goals;
}

-- the answer that says a verdict: the number returned is `yea` on success and `nay` on refusal
abbrev pub answer_of : Verdict → (yea nay : ℕ) → Answer
answer_of v yea nay = record { number = v.number; second = v.second; place = v.place; value = cond (eqb v.number 0) yea nay }

-- lent memory whose first n places are filled with f 0, f 1, ..; the rest is as it was
unfoldable pub filled : {A : Type 0} → (ℕ → A) → ℕ → List A → List A
filled f zero xs = xs
filled f (suc k) xs = set (filled f k xs) k (f k)

-- lent bytes whose first places hold the list xs; the rest is as it was
abbrev pub written : (xs old : List ℕ) → List ℕ
written xs old = filled (λ i. get_or xs i 0) (length xs) old

-- the table by value of the jobs f 0 to f (n - 1), where `lent` records were lent; empty records behind them
abbrev pub tabled : (f : ℕ → Action) (n lent : ℕ) → Loaded
tabled f n lent = record { jobs = filled f n (replicate 24 no_job); lent = lent }

-- the table by value without jobs
abbrev pub no_jobs : (lent : ℕ) → Loaded
no_jobs lent = record { jobs = replicate 24 no_job; lent = lent }

-- what lent memory holds after the call: changed where the verdict accepts, else as it was
abbrev pub changed : {A : Type 0} → Verdict → (new old : List A) → List A
changed v new old = cond (eqb v.number 0) new old

-- a call that fills lent memory with a number a job: behind the checks C the verdict v comes, with a value and the numbers s, of which A is so;
-- the answer says it all, `nay` is the value of every refusal, and where v accepts the first n places hold s
pub record Fills (C : Verdict → Verdict) (A : Verdict → ℕ → (ℕ → ℕ) → Type 0) (nay n : ℕ) (old new : List ℕ) (r : Answer) : Type 0 where
  pub v : Verdict
  pub value : ℕ
  pub s : ℕ → ℕ
  pub behind : C accepted ≡ accepted → A v value s
  pub says : r ≡ answer_of (C v) value nay
  pub leaves : new ≡ changed (C v) (filled s n old) old

-- checks 3 to 9 and 20 of a call; `short` says that lent memory beside the table is too short, and a call without a bound gives 0
abbrev pub call_checks : (short : Bool) (bound : ℕ) → Loaded → Ask → Verdict → Verdict
call_checks short bound l q next = refuse_if (short || ltb l.lent q.jobs) 3 0 (table_checks (problem l q) (bound_check bound next))
