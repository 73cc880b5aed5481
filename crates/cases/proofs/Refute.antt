-- A test that passes only where no plan is valid: it tries every support of every condition, and every side of every threat.
-- Assumes nothing.
use mathlib.Core.Bool.{Bool, true, false, not, ◌&&◌, ◌||◌}
use mathlib.Core.List.{List, [], ◌∷◌, ◌++◌}
use Prim.Native.Nat.{ℕ, zero, suc, ◌+◌, max}
use lib.Dec.{eqb, ltb}
use Rattle.facts.specs.Facts.{has}
use Rattle.facts.specs.Least.{any}
use Rattle.rules.specs.Table.{Problem}
use Rattle.rules.specs.Supports.{Who, task, goal}

-- job a is over before job b starts
pub record Order : Type 0 where
  pub a : ℕ
  pub b : ℕ

abbrev pub order : ℕ → ℕ → Order
order a b = record { a = a; b = b }

-- what is known of a plan: by when each job ends if it is in, which jobs are in, and orders of jobs that are in
pub record Known : Type 0 where
  pub due : ℕ → ℕ
  pub ins : List ℕ
  pub orders : List Order

-- what is left to decide: a support of fact p, or on which side the deleter d stands, if it is in
pub data Task : Type 0 where
  want : Who → (p : ℕ) → Task
  guard : (d : ℕ) → (sides : List Order) → Task

-- ── lists ──

unfoldable pub some : {A : Type 0} → (A → Bool) → List A → Bool
some f [] = false
some f (x ∷ xs) = let rest = some f xs in f x || rest

unfoldable pub every : {A : Type 0} → (A → Bool) → List A → Bool
every f [] = true
every f (x ∷ xs) = let rest = every f xs in f x && rest

-- a task where the test passes
unfoldable pub add_if : Bool → Task → List Task → List Task
add_if true t ts = t ∷ ts
add_if false t ts = ts

-- the tasks of those numbers below n that pass the test, before the others
unfoldable pub collect : (ℕ → Bool) → (ℕ → Task) → (n : ℕ) → List Task → List Task
collect f t zero ts = ts
collect f t (suc k) ts = add_if (f k) (t k) (collect f t k ts)

-- ── what is known ──

-- job a is in, and keeps these orders
unfoldable pub include : ℕ → List Order → Known → Known
include a es k = record { due = k.due; ins = a ∷ k.ins; orders = es ++ k.orders }

-- 0 for a job that is out: no job that is in ends by 0
unfoldable pub due_if : Bool → ℕ → ℕ
due_if true t = 0
due_if false t = t

-- job d is out
unfoldable pub exclude : ℕ → Known → Known
exclude d k = record { due = λ i. due_if (eqb i d) (k.due i); ins = k.ins; orders = k.orders }

-- job a is over before who has the condition starts; End has no start
unfoldable pub ahead : ℕ → Who → List Order
ahead a goal = []
ahead a (task b) = order a b ∷ []

-- who has the condition is over before job d starts; no job starts after End
unfoldable pub behind : Who → ℕ → List Order
behind goal d = []
behind (task b) d = order b d ∷ []

-- the condition is d's own
unfoldable pub is_job : Who → ℕ → Bool
is_job goal d = false
is_job (task b) d = eqb d b

module _ (P : Problem) where
  -- when job i starts at the earliest, if it starts at t or later
  unfoldable pub at_least : (i t : ℕ) → ℕ
  at_least i t = max t (P.release i)

  -- from job i, which starts at t or later, orders lead to a job that ends too late, or back to o
  unfoldable pub chain : Known → (fuel o i t : ℕ) → Bool
  chain k zero o i t = false
  chain k (suc n) o i t =
      let rest = some (λ e. let on = eqb e.b o || chain k n o e.b (at_least i t + P.duration i + P.gap) in eqb e.a i && on) k.orders in
      ltb (k.due i) (at_least i t + P.duration i) || rest

  -- so no plan is as known
  unfoldable pub broken : Known → Bool
  broken k = some (λ i. chain k (suc P.count) i i 0) k.ins

  -- each condition of job a wants a support, unless a was in before
  unfoldable pub wants : Known → ℕ → List Task → List Task
  wants k a ts = collect (λ p. has (P.conditions a) p && not (some (eqb a) k.ins)) (want (task a)) P.atoms ts

  -- each other job that deletes p stands on one of its sides
  unfoldable pub guards : Who → (p : ℕ) → (sides : ℕ → List Order) → List Task → List Task
  guards w p sides ts = collect (λ d. has (P.deletions d) p && not (is_job w d)) (λ d. guard d (sides d)) P.count ts

  -- every way to do the first task leads nowhere, by the test r of what is left
  unfoldable pub step : (List Task → Known → Bool) → List Task → Known → Bool
  step r [] k = false
  step r (want w p ∷ ts) k =
      let open? = r (guards w p (behind w) ts) k in
      (not (has P.opening p) || open?)
      && not (any (λ a. let given = r (guards w p (λ d. order d a ∷ behind w d) (wants k a ts)) (include a (ahead a w) k) in has (P.additions a) p && not given) P.count)
  step r (guard d sides ∷ ts) k = r ts (exclude d k) && every (λ e. r (wants k d ts) (include d (e ∷ []) k)) sides

  -- no plan is as known and has these tasks
  unfoldable pub refute : (fuel : ℕ) → List Task → Known → Bool
  refute zero ts k = false
  refute (suc n) ts k = broken k || step (refute n) ts k

  -- no plan is valid in which each job that is in ends by its due: 40 tasks in a row are enough for the table
  unfoldable pub hopeless : (ℕ → ℕ) → Bool
  hopeless due = refute 40 (collect (has P.goals) (want goal) P.atoms []) (record { due = due; ins = []; orders = [] })
