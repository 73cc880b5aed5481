-- Which batch a job and a fact come from.
-- Assumes nothing.
use Rattle.std.specs.Prelude.{◌≡◌, ◌⊎◌, List, ℕ, suc, ◌+◌, ◌<◌, T, length}
use Rattle.facts.specs.Facts.{has}
use Rattle.tables.specs.declared.Action.{Action}
use Rattle.batches.specs.Batches.{batch_stages, stage_at, jobs_up_to, first_job, first_done, job_count}

-- there is a batch b, and it has a stage i
abbrev pub HasStage : List ℕ → (b i : ℕ) → Type 0
HasStage gs b i = (b < length gs) × (i < length (batch_stages gs b))

-- job k comes from stage i of batch b: it is its own job, or its clearing job
abbrev pub JobOf : List ℕ → (b i k : ℕ) → Type 0
JobOf gs b i k =
    HasStage gs b i
    × ((k ≡ first_job gs b + jobs_up_to (batch_stages gs b) i) ⊎ (T (stage_at (batch_stages gs b) i).bay × (k ≡ suc (first_job gs b + jobs_up_to (batch_stages gs b) i))))

-- fact p is the done fact of stage i of batch b
abbrev pub FactOf : List ℕ → (b i p : ℕ) → Type 0
FactOf gs b i p = HasStage gs b i × (p ≡ first_done gs b + i)

-- every job of the table, and every fact but the bay, comes from exactly one stage of exactly one batch
pub record FromOneBatch (gs : List ℕ) : Type 0 where
  pub job : (k : ℕ) → k < job_count gs → (b : ℕ) × (i : ℕ) × JobOf gs b i k
  pub job_only : (k b i c j : ℕ) → JobOf gs b i k → JobOf gs c j k → (b ≡ c) × (i ≡ j)
  pub fact : (p : ℕ) → 0 < p → p < first_done gs (length gs) → (b : ℕ) × (i : ℕ) × FactOf gs b i p
  pub fact_only : (p b i c j : ℕ) → FactOf gs b i p → FactOf gs c j p → (b ≡ c) × (i ≡ j)

-- fact p is in one of the job's words
abbrev pub Touches : Action → ℕ → Type 0
Touches a p = T (has a.conditions p) ⊎ (T (has a.additions p) ⊎ T (has a.deletions p))

-- a job of batch b touches no fact but the bay and those of its own batch
abbrev pub OwnFacts : List ℕ → (ℕ → Action) → Type 0
OwnFacts gs job = (b i k p : ℕ) → JobOf gs b i k → Touches (job k) p → (p ≡ 0) ⊎ ((j : ℕ) × FactOf gs b j p)
