-- What the steps of the expander give.
-- Assumes nothing.
use Rattle.std.specs.Prelude.{◌≡◌, ◌||◌, List, ℕ, suc, ◌+◌, ◌-◌, ◌<◌, T, eqb, length, get_or}
use Rattle.facts.specs.Facts.{has}
use Rattle.facts.specs.Least.{any}
use Rattle.facts.specs.Words.{Word}
use Rattle.refusals.specs.Refusals.{accepted}
use Rattle.tables.specs.declared.Loaded.{Loaded}
use Rattle.tables.specs.Tables.{answer_of, job_at}
use Rattle.jobfile.specs.declared.Read.{Read}
use Rattle.batches.specs.declared.Stage.{Stage}
use Rattle.batches.specs.declared.Draft.{Draft}
use Rattle.batches.specs.declared.BatchAnswer.{BatchAnswer}
use Rattle.batches.specs.Batches.{batch_stages, jobs_up_to, first_job, first_done, last_done, StageJob, ClearingJob, Stages, BatchTable}

-- every batch names a house group
abbrev pub AllKnown : List ℕ → Type 0
AllKnown gs = (b : ℕ) → b < length gs → get_or gs b 0 < 12

-- the jobs below n are the same in both tables
abbrev pub Unmoved : ℕ → (l r : Loaded) → Type 0
Unmoved n l r = (k : ℕ) → k < n → job_at r k ≡ job_at l k

-- the table r is l with a stage from job n on
pub record OneStage (l : Loaded) (n : ℕ) (s : Stage) (first i : ℕ) (r : Loaded) : Type 0 where
  pub before : Unmoved n l r
  pub stage : StageJob s first i (job_at r n)
  pub clearing : T s.bay → ClearingJob (first + i) (job_at r (suc n))

-- the table r is l with the first n stages from job `at` on
pub record SomeStages (l : Loaded) (ss : List Stage) (n at first : ℕ) (r : Loaded) : Type 0 where
  pub before : Unmoved at l r
  pub stages : Stages ss n at first (job_at r)

-- the draft r is d with a batch of these stages behind it
pub record Appended (d : Draft) (ss : List Stage) (r : Draft) : Type 0 where
  pub jobs : r.jobs ≡ d.jobs + jobs_up_to ss (length ss)
  pub facts : r.facts ≡ d.facts + length ss
  pub goals : Word (λ p. has d.goals p || eqb p (d.facts + (length ss - 1))) r.goals
  pub table : SomeStages d.table ss (length ss) d.jobs d.facts r.table

-- the draft of the first b batches
pub record Drafted (gs : List ℕ) (b : ℕ) (d : Draft) : Type 0 where
  pub jobs : d.jobs ≡ first_job gs b
  pub facts : d.facts ≡ first_done gs b
  pub goals : Word (λ p. any (λ c. eqb p (last_done gs c)) b) d.goals
  pub batch : (c : ℕ) → c < b → Stages (batch_stages gs c) (length (batch_stages gs c)) (first_job gs c) (first_done gs c) (job_at d.table)

-- the answer and the numbers of what was handed out; a bound is none of them
abbrev pub batched : Read → BatchAnswer
batched r = record { answer = r.answer; jobs = r.ask.jobs; atoms = r.ask.atoms; opening = r.ask.opening; goals = r.ask.goals }

-- what is handed out where nothing is refused
pub record HandedOut (gs : List ℕ) (r : Read) : Type 0 where
  pub done : r.answer ≡ answer_of accepted 0 0
  pub table : BatchTable gs r.ask.jobs r.ask.atoms r.ask.opening r.ask.goals (job_at r.table)
