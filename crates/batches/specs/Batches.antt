-- Batches of house groups as a job table: its jobs and facts by batch and stage, and what the expander promises.
-- Assumes nothing.
use Rattle.std.specs.Prelude.{◌≡◌, Bool, false, ◌&&◌, ◌||◌, cond, List, [], ℕ, suc, ◌+◌, ◌-◌, ◌<◌, min, T, eqb, leb, ltb, length, get_or}
use Rattle.facts.specs.Facts.{has}
use Rattle.facts.specs.Least.{least, any}
use Rattle.refusals.specs.Refusals.{Verdict, accepted, refuse_if}
use Rattle.rules.specs.Sums.{sum}
use Rattle.tables.specs.declared.Action.{Action}
use Rattle.tables.specs.declared.Answer.{Answer}
use Rattle.tables.specs.Tables.{answer_of, filled}
use Rattle.batches.specs.declared.Stage.{Stage}
use Rattle.batches.specs.declared.BatchAnswer.{BatchAnswer}
use Rattle.batches.specs.Groups.{bench_stage, house_groups}

-- ── the numbers of jobs and facts ──

-- the stages of a group
abbrev pub group_stages : ℕ → List Stage
group_stages g = get_or house_groups g []

-- the stages of batch b, where gs has the group of each batch
abbrev pub batch_stages : List ℕ → ℕ → List Stage
batch_stages gs b = group_stages (get_or gs b 0)

-- stage i of a list of stages
abbrev pub stage_at : List Stage → ℕ → Stage
stage_at ss i = get_or ss i (bench_stage 0)

-- how many jobs a stage gives: its own, and right after it a clearing job where it holds the bay
abbrev pub jobs_for : Stage → ℕ
jobs_for s = cond s.bay 2 1

-- how many jobs the first i stages give
abbrev pub jobs_up_to : List Stage → ℕ → ℕ
jobs_up_to ss i = sum (λ j. jobs_for (stage_at ss j)) i

-- the first job of batch b: the jobs of the batches before it stand before it
abbrev pub first_job : List ℕ → ℕ → ℕ
first_job gs b = sum (λ c. jobs_up_to (batch_stages gs c) (length (batch_stages gs c))) b

-- the done fact of its first stage: fact 0 is the bay, then come those of the batches before it
abbrev pub first_done : List ℕ → ℕ → ℕ
first_done gs b = suc (sum (λ c. length (batch_stages gs c)) b)

-- the done fact of its last stage
abbrev pub last_done : List ℕ → ℕ → ℕ
last_done gs b = first_done gs b + (length (batch_stages gs b) - 1)

-- how many jobs there are in all
abbrev pub job_count : List ℕ → ℕ
job_count gs = first_job gs (length gs)

-- ── the jobs ──

-- a job that needs, adds and deletes the facts that pass these tests, lasts so long and may start at once
pub record JobWith (needs adds deletes : ℕ → Bool) (duration : ℕ) (a : Action) : Type 0 where
  pub needed : (p : ℕ) → has a.conditions p ≡ needs p
  pub added : (p : ℕ) → has a.additions p ≡ adds p
  pub deleted : (p : ℕ) → has a.deletions p ≡ deletes p
  pub lasts : a.duration ≡ duration
  pub free : a.release ≡ 0

-- the job of stage i of a batch whose done facts stand from `first` on: it needs the stage before it done and, where it holds the bay, the bay,
-- which it deletes; it adds its own done fact
abbrev pub StageJob : Stage → (first i : ℕ) → Action → Type 0
StageJob s first i = JobWith (λ p. (s.bay && eqb p 0) || (ltb 0 i && eqb p (first + (i - 1)))) (λ p. eqb p (first + i)) (λ p. s.bay && eqb p 0) s.duration

-- the clearing job of a stage: one quarter hour long, it needs the stage done, adds the bay and deletes nothing
abbrev pub ClearingJob : (done : ℕ) → Action → Type 0
ClearingJob done = JobWith (λ p. eqb p done) (λ p. eqb p 0) (λ p. false) 1

-- the first n stages, with jobs from number `at` on and done facts from `first` on
pub record Stages (ss : List Stage) (n at first : ℕ) (job : ℕ → Action) : Type 0 where
  pub stage : (i : ℕ) → i < n → StageJob (stage_at ss i) first i (job (at + jobs_up_to ss i))
  pub clearing : (i : ℕ) → i < n → T (stage_at ss i).bay → ClearingJob (first + i) (job (suc (at + jobs_up_to ss i)))

-- the table that the batches make: all their stages; one fact more than there are stages; the bay alone is open; the goals are the last stages' done facts
pub record BatchTable (gs : List ℕ) (jobs atoms opening goals : ℕ) (job : ℕ → Action) : Type 0 where
  pub count : jobs ≡ job_count gs
  pub facts : atoms ≡ first_done gs (length gs)
  pub bay : (p : ℕ) → has opening p ≡ eqb p 0
  pub last : (p : ℕ) → has goals p ≡ any (λ b. eqb p (last_done gs b)) (length gs)
  pub batch : (b : ℕ) → b < length gs → Stages (batch_stages gs b) (length (batch_stages gs b)) (first_job gs b) (first_done gs b) job

-- ── the call ──

-- batch b names none of the 12 house groups
abbrev pub unknown : List ℕ → ℕ → Bool
unknown gs b = leb 12 (get_or gs b 0)

-- the checks 28, 29, 30, then 3, for a caller that lends `room` records; a place has 16 bits, so 65,535 also stands for every batch behind it
unfoldable pub batch_checks : List ℕ → (room : ℕ) → Verdict
batch_checks gs room =
    refuse_if (any (unknown gs) (length gs)) 28 (min (least (unknown gs) (length gs)) 65535)
    (refuse_if (ltb 4 (length gs)) 29 4 (refuse_if (ltb 24 (job_count gs)) 30 0 (refuse_if (ltb room (job_count gs)) 3 0 accepted)))

-- the answer on refusal: no numbers
abbrev pub no_table : Answer → BatchAnswer
no_table a = record { answer = a; jobs = 0; atoms = 0; opening = 0; goals = 0 }

-- what is said to a caller that lends `room` records, and the jobs for them
pub record Expands (gs : List ℕ) (room : ℕ) (job : ℕ → Action) (r : BatchAnswer) : Type 0 where
  pub says : r.answer ≡ answer_of (batch_checks gs room) 0 0
  pub table : batch_checks gs room ≡ accepted → BatchTable gs r.jobs r.atoms r.opening r.goals job
  pub none : (batch_checks gs room ≡ accepted → ⊥) → r ≡ no_table r.answer

-- the jobs stand first in the lent records, none on refusal; the rest is as it was
pub record Batches (gs : List ℕ) (old new : List Action) (r : BatchAnswer) : Type 0 where
  pub job : ℕ → Action
  pub expands : Expands gs (length old) job r
  pub records : new ≡ filled job r.jobs old
