-- 255 records serve every file: with them a reader never says 3, and tidying says it exactly where more bytes are said to be in use than there are.
-- Assumes nothing.
use mathlib.Core.Path.{◌≡◌, sym, ap, ◌∙◌}
use mathlib.Core.Logic.{◌⊎◌, inl, inr, ◌≢◌, ◌↔◌}
use mathlib.Core.Bool.{false, not}
use mathlib.Core.List.{List}
use Prim.Native.Nat.{ℕ, ◌≤◌, ◌<◌}
use native.Mathlib.Omega.{arith}
use lib.Dec.{T, ltb, ltb→lt, lt→ltb}
use lib.ListN.{length, take}
use Rattle.facts.proofs.Bools.{T?}
use Rattle.refusals.specs.Refusals.{Verdict, accepted}
use Rattle.refusals.proofs.Refused.{if_pass, if_hit, if_other, at_other}
use Rattle.rules.specs.Table.{Problem, between, job_strays, undoes, job_checks, table_checks, bound_check}
use Rattle.tables.specs.declared.Loaded.{Loaded}
use Rattle.tables.specs.declared.Ask.{Ask}
use Rattle.tables.specs.Tables.{problem, call_checks}
use Rattle.bytes_le.specs.Steps.{Bytes}
use Rattle.bytes_le.proofs.Numbers.{number_lt}
use Rattle.bytes_le.proofs.Stands.{bytes_take, bytes_drop}
use Rattle.jobfile.specs.Format.{trailer_at, trailer_in, ask_in, records_in, table_in}
use Rattle.jobfile.specs.Calls.{save_checks, read_checks}
use Rattle.jobfile.specs.Tidy.{tidy_checks}

-- no check of a table says 3
table_other : (P : Problem) (v : Verdict) → (table_checks P v).number ≡ 3 → v.number ≡ 3
unfolding table_checks job_checks
table_other P v h =
    at_other (undoes P) P.count 8 v (omega arith)
    (if_other _ 7 24 _ (omega arith)
    (at_other (job_strays P) P.count 7 _ (omega arith)
    (at_other (λ i. ltb 2880 (P.release i)) P.count 20 _ (omega arith)
    (at_other (λ i. not (between 1 960 (P.duration i))) P.count 6 _ (omega arith) (if_other _ 5 0 _ (omega arith) (if_other _ 4 0 _ (omega arith) h).1).1)))).1

-- so a call that lends nothing else says it of the records alone
call_three : (bound : ℕ) (l : Loaded) (q : Ask) → (call_checks false bound l q accepted).number ≡ 3 → l.lent < q.jobs
unfolding bound_check
call_three bound l q h = go (T? (ltb l.lent q.jobs))
  where
    go : T (ltb l.lent q.jobs) ⊎ (T (ltb l.lent q.jobs) → ⊥) → l.lent < q.jobs
    go (inl x) = ltb→lt l.lent q.jobs x
    go (inr n) =
        let e = table_other (problem l q) (bound_check bound accepted) (sym (ap (λ (v : Verdict). v.number) (if_pass (ltb l.lent q.jobs) 3 0 _ n)) ∙ h) in
        absurd (omega (arith, (if_other (ltb 2880 bound) 9 0 accepted (omega arith) e).1))

-- a job count is one byte
pub never_3 : (file : List ℕ) → Bytes file → (read_checks file 255).number ≢ 3
unfolding read_checks save_checks
never_3 file b h =
    let q = ask_in (trailer_in file) in
    let e = (if_other _ 2 0 _ (omega arith) (if_other _ 2 0 _ (omega arith) (if_other _ 2 0 _ (omega arith) (if_other _ 1 0 _ (omega arith) h).1).1).1).1 in
    omega (arith, call_three q.bound (table_in (records_in file) q.jobs 255) q e, number_lt 1 (trailer_in file) 18 (bytes_drop (trailer_at file) file b))

pub tidy_3 : (used : ℕ) (buf : List ℕ) → Bytes buf → used ≤ 65536 → ((tidy_checks used buf).number ≡ 3) ↔ (length buf < used)
unfolding tidy_checks
tidy_3 used buf b short = (there, back)
  where
    within : T (ltb 65536 used) → ⊥
    within h = omega (arith, ltb→lt 65536 used h, short)

    there : (tidy_checks used buf).number ≡ 3 → length buf < used
    there h = go (T? (ltb (length buf) used))
      where
        go : T (ltb (length buf) used) ⊎ (T (ltb (length buf) used) → ⊥) → length buf < used
        go (inl x) = ltb→lt (length buf) used x
        go (inr n) = absurd (never_3 (take used buf) (bytes_take used buf b) (sym (ap (λ (v : Verdict). v.number) (if_pass _ 1 0 _ within ∙ if_pass _ 3 0 _ n)) ∙ h))

    back : length buf < used → (tidy_checks used buf).number ≡ 3
    back l = ap (λ (v : Verdict). v.number) (if_pass _ 1 0 _ within ∙ if_hit _ 3 0 _ (lt→ltb (length buf) used l))
