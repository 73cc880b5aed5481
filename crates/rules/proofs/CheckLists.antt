-- The checks of a table, a bound and a plan are lists of checks.
-- Assumes nothing.
use mathlib.Core.Path.{refl}
use mathlib.Core.Bool.{not, ◌||◌}
use Prim.Native.Nat.{ℕ}
use native.Mathlib.Omega.{arith}
use lib.Dec.{ltb}
use Rattle.rules.specs.Table.{Problem, between, strays, job_strays, undoes, job_checks, table_checks, bound_check}
use Rattle.rules.specs.Plans.{Plan}
use Rattle.rules.specs.Verdicts.{late, early, clashes, clash_fact, unready, missing, plan_checks}
use Rattle.refusals.proofs.Refused.{Checks, at_checks, for_checks, if_checks, then_checks}

pub job_checks_lem : (P : Problem) → Checks (job_checks P)
unfolding job_checks
job_checks_lem P =
    then_checks (at_checks (λ i. not (between 1 960 (P.duration i))) P.count 6 (omega arith))
    (then_checks (at_checks (λ i. ltb 2880 (P.release i)) P.count 20 (omega arith))
    (then_checks (at_checks (job_strays P) P.count 7 (omega arith))
    (then_checks (if_checks (strays P.atoms P.opening || strays P.atoms P.goals) 7 24 (omega arith)) (at_checks (undoes P) P.count 8 (omega arith)))))

pub table_checks_lem : (P : Problem) → Checks (table_checks P)
unfolding table_checks
table_checks_lem P =
    then_checks (if_checks (not (between 1 64 P.atoms)) 4 0 (omega arith)) (then_checks (if_checks (ltb 24 P.count) 5 0 (omega arith)) (job_checks_lem P))

pub bound_checks : (bound : ℕ) → Checks (bound_check bound)
unfolding bound_check
bound_checks bound = if_checks (ltb 2880 bound) 9 0 (omega arith)

pub plan_checks_lem : (P : Problem) (bound : ℕ) (s : Plan) → Checks (plan_checks P bound s)
unfolding plan_checks
plan_checks_lem P bound s =
    then_checks (at_checks (late P bound s) P.count 11 (omega arith))
    (then_checks (at_checks (early P s) P.count 21 (omega arith))
    (then_checks (for_checks (clashes P s) (clash_fact P s) P.count 12 (omega arith) (λ k ne. absurd (ne refl)))
    (then_checks (at_checks (unready P s) P.count 13 (omega arith)) (at_checks (missing P bound s) 64 14 (omega arith)))))
