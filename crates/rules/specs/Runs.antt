-- The run of a plan whose jobs run over, and what is shown of all runs.
-- Assumes nothing.
use Rattle.std.specs.Prelude.{◌≡◌, ℕ, ◌+◌, ◌≤◌, T}
use Rattle.rules.specs.Table.{Problem}
use Rattle.rules.specs.Plans.{Plan, In, finish}
use Rattle.rules.specs.Pairs.{binds}
use Rattle.rules.specs.Lateness.{IsGreatest}

-- at t the release of job j has come and all its binding predecessors have finished, with the gap, by the starts z and with the overruns
pub record DueAt (P : Problem) (s : Plan) (over : ℕ → ℕ) (z : Plan) (j t : ℕ) : Type 0 where
  pub released : P.release j ≤ t
  pub behind : (a : ℕ) → In P s a → T (binds P s a j) → finish P z a + over a + P.gap ≤ t

-- the run of a plan with the overruns: each of its jobs starts as soon as it is due
pub record Run (P : Problem) (s : Plan) (over : ℕ → ℕ) (z : Plan) : Type 0 where
  pub due : (j : ℕ) → In P s j → DueAt P s over z j (z j)
  pub soon : (j t : ℕ) → In P s j → DueAt P s over z j t → z j ≤ t

-- in the run all is finished by t
abbrev pub FinishedBy : Problem → Plan → (over : ℕ → ℕ) → (z : Plan) → (t : ℕ) → Type 0
FinishedBy P s over z t = (j : ℕ) → In P s j → finish P z j + over j ≤ t

-- what is shown of k and t: for all overruns, job by job, the plan has one run; where none is over k all is finished by t; with k = 0 the last job
-- finishes just then; the empty plan finishes at 0
pub record RunsBy (P : Problem) (s : Plan) (k t : ℕ) : Type 0 where
  pub some : (over : ℕ → ℕ) → (z : Plan) × Run P s over z
  pub only : (over : ℕ → ℕ) (y z : Plan) → Run P s over y → Run P s over z → (j : ℕ) → In P s j → y j ≡ z j
  pub within : (over : ℕ → ℕ) → ((j : ℕ) → In P s j → over j ≤ k) → (z : Plan) → Run P s over z → FinishedBy P s over z t
  pub just : k ≡ 0 → (z : Plan) → Run P s (λ j. 0) z → IsGreatest (λ m. (j : ℕ) × In P s j × (finish P z j ≡ m)) t
  pub empty : ((j : ℕ) → In P s j → ⊥) → t ≡ 0
