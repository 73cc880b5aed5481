-- How late it can get: the settled finish of a plan's binding pairs, and k quarter hours for each job of their longest chain.
-- Assumes nothing.
use Rattle.std.specs.Prelude.{◌≡◌, ◌⊎◌, ℕ, suc, ◌+◌, ◌*◌, ◌≤◌, ◌<◌, T, ltb}
use Rattle.refusals.specs.Refusals.{Verdict, refuse_if}
use Rattle.rules.specs.Table.{Problem}
use Rattle.rules.specs.Plans.{Plan, in_plan, In, finish}
use Rattle.rules.specs.Pairs.{binds}
use Rattle.rules.specs.Settling.{Asked, Settled}

-- n is the greatest number of which Q is so, 0 if there is none
pub record IsGreatest (Q : ℕ → Type 0) (n : ℕ) : Type 0 where
  pub most : (m : ℕ) → Q m → m ≤ n
  pub met : (n ≡ 0) ⊎ Q n

-- t is the settled finish of what is asked: the last finish of a job of the set by the settled starts
pub record SettledFinish (P : Problem) (q : Asked) (t : ℕ) : Type 0 where
  pub z : Plan
  pub settled : Settled P q z
  pub last : IsGreatest (λ m. (j : ℕ) × (j < P.count) × T (q.set j) × (finish P z j ≡ m)) t

-- the binding pairs of a plan, asked of its jobs from their releases on
abbrev pub binding_pairs : Problem → (bound : ℕ) → Plan → Asked
binding_pairs P bound s = record { set = in_plan s; pair = binds P s; from = P.release; bound = bound }

-- a chain of n jobs of the plan, each binding the next, the last of them job j; a lone job is a chain of one
pub data BindingChain (P : Problem) (s : Plan) : (n j : ℕ) → Type 0 where
  lone : {j : ℕ} → In P s j → BindingChain P s 1 j
  longer : {n a j : ℕ} → BindingChain P s n a → In P s j → T (binds P s a j) → BindingChain P s (suc n) j

-- t is the settled finish of the binding pairs plus k times the greatest number of jobs in one chain of them
pub record LatestFinish (P : Problem) (bound : ℕ) (s : Plan) (k t : ℕ) : Type 0 where
  pub last : ℕ
  pub settled : SettledFinish P (binding_pairs P bound s) last
  pub jobs : ℕ
  pub longest : IsGreatest (λ n. (j : ℕ) × BindingChain P s n j) jobs
  pub sum : t ≡ last + k * jobs

-- check 34
unfoldable pub overrun_check : (k : ℕ) → Verdict → Verdict
overrun_check k next = refuse_if (ltb 96 k) 34 0 next
