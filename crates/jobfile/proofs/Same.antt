-- The checks of a table look at its jobs alone: two tables with the same jobs are judged alike.
-- Assumes nothing.
use mathlib.Core.Path.{◌≡◌, ap, ◌∙◌}
use mathlib.Core.Bool.{Bool, not, ◌&&◌, ◌||◌, cond}
use Prim.Native.Nat.{ℕ, ◌<◌}
use lib.Dec.{ltb}
use Rattle.facts.specs.Facts.{has}
use Rattle.facts.specs.Least.{any}
use Rattle.facts.proofs.Least.{least_same}
use Rattle.refusals.specs.Refusals.{Verdict, refused, refuse_if, refuse_at, refuse_for}
use Rattle.rules.specs.Table.{between, strays, job_strays, undoes, job_checks, table_checks}
use Rattle.tables.specs.declared.Action.{Action}
use Rattle.tables.specs.declared.Loaded.{Loaded}
use Rattle.tables.specs.declared.Ask.{Ask}
use Rattle.tables.specs.Tables.{job_at, problem}
use Rattle.tables.specs.Steps.{stray_record}

-- a test of each job
each_same : (f : Action → Bool) (l l' : Loaded) (m n : ℕ) (v : Verdict) → ((i : ℕ) → i < m → job_at l i ≡ job_at l' i)
    → refuse_at (λ i. f (job_at l i)) m n v ≡ refuse_at (λ i. f (job_at l' i)) m n v
unfolding refuse_at refuse_for any
each_same f l l' m n v h = ap (λ (r : ℕ). cond (ltb r m) (refused n r) v) (least_same (λ i. f (job_at l i)) (λ i. f (job_at l' i)) m (λ i k. ap f (h i k)))

pub checks_same : (l l' : Loaded) (q : Ask) (v : Verdict) → ((i : ℕ) → i < q.jobs → job_at l i ≡ job_at l' i)
    → table_checks (problem l q) v ≡ table_checks (problem l' q) v
unfolding table_checks job_checks job_strays undoes
checks_same l l' q v h =
    ap (λ (x : Verdict). refuse_if (not (between 1 64 (problem l q).atoms)) 4 0 (refuse_if (ltb 24 q.jobs) 5 0 x))
    (each_same long l l' q.jobs 6 _ h
    ∙ ap (refuse_at (λ i. long (job_at l' i)) q.jobs 6)
    (each_same late l l' q.jobs 20 _ h
    ∙ ap (refuse_at (λ i. late (job_at l' i)) q.jobs 20)
    (each_same (stray_record (problem l q).atoms) l l' q.jobs 7 _ h
    ∙ ap (λ (x : Verdict). refuse_at (λ i. stray_record (problem l q).atoms (job_at l' i)) q.jobs 7 (refuse_if (strays (problem l q).atoms q.opening || strays (problem l q).atoms q.goals) 7 24 x))
    (each_same both l l' q.jobs 8 v h))))
  where
    long : Action → Bool
    long a = not (between 1 960 a.duration)

    late : Action → Bool
    late a = ltb 2880 a.release

    both : Action → Bool
    both a = any (λ p. has a.additions p && has a.deletions p) 64
