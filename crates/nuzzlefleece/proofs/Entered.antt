-- A table that batches filled is taken by every call over it, by either rule: no check of 3 to 9 or 20 refuses it within a bound of 2,880.
-- Assumes nothing.
use mathlib.Core.Path.{◌≡◌, sym, ap, ◌∙◌}
use mathlib.Core.Bool.{false}
use mathlib.Core.List.{List}
use Prim.Native.Nat.{ℕ, ◌≤◌, ◌<◌}
use native.Mathlib.Omega.{arith}
use lib.Dec.{ltb, ltb→lt}
use lib.ListN.{length}
use Rattle.refusals.specs.Refusals.{Verdict, accepted}
use Rattle.refusals.proofs.Refused.{if_pass}
use Rattle.rules.specs.Table.{bound_check}
use Rattle.rules.proofs.Checked.{passes}
use Rattle.tables.specs.declared.Action.{Action}
use Rattle.tables.specs.declared.Ask.{Ask}
use Rattle.tables.specs.declared.Answer.{Answer}
use Rattle.tables.specs.Tables.{no_job, record_at, unmarked, job_at, problem, call_checks}
use Rattle.tables.proofs.Lent.{length_filled, filled_at}
use Rattle.records.specs.Records.{loaded}
use Rattle.records.proofs.Lies.{loaded_at}
use Rattle.batches.specs.declared.BatchAnswer.{BatchAnswer}
use Rattle.batches.specs.Batches.{batch_checks, Batches}
use Rattle.batches.proofs.Only.{checks_accept, groups_fit, expands_fit}
use Rattle.batches.proofs.InOrder.{batches_pass}

module _ (gs : List ℕ) (old new : List Action) (r : BatchAnswer) (x : Batches gs old new r) (z : r.answer.number ≡ 0) where
  taken : batch_checks gs (length old) ≡ accepted
  taken = checks_accept gs (length old) (sym (ap (λ (a : Answer). a.number) x.expands.says) ∙ z)

  fits : (r.jobs ≤ 24) × (r.jobs ≤ length old)
  fits = expands_fit gs (length old) x.job r x.expands

  as_lent : length new ≡ length old
  as_lent = ap length x.records ∙ length_filled x.job r.jobs old

  at : (k : ℕ) → k < r.jobs → job_at (loaded new) k ≡ x.job k
  at k m = loaded_at new k (omega (arith, fits.0)) ∙ (ap (λ (ts : List Action). record_at ts k) x.records ∙ filled_at x.job r.jobs old k no_job m (omega (arith, fits.1)))

  pub batches_taken : (q : Ask) → q.jobs ≡ r.jobs → (unmarked q.atoms).atoms ≡ r.atoms → q.opening ≡ r.opening → q.goals ≡ r.goals → q.bound ≤ 2880
      → (next : Verdict) → call_checks false q.bound (loaded new) q next ≡ next
  unfolding bound_check
  batches_taken q jobs atoms opening goals bound next =
      if_pass (ltb (length new) q.jobs) 3 0 _ (λ t. omega (arith, ltb→lt (length new) q.jobs t, as_lent, jobs, fits.1))
      ∙ (passes (problem (loaded new) q) (batches_pass gs (groups_fit gs (length old) taken).0 (groups_fit gs (length old) taken).1 (x.expands.table taken) (loaded new) q at jobs fits.0 atoms opening goals) (bound_check q.bound next)
      ∙ if_pass (ltb 2880 q.bound) 9 0 next (λ t. omega (arith, ltb→lt 2880 q.bound t)))
