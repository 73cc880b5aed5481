-- What an answer of planning without a refusal says: the plan that stands in lent memory.
-- Assumes nothing.
use mathlib.Core.Path.{◌≡◌, sym, ◌∙◌, subst}
use mathlib.Core.List.{List}
use Prim.Native.Nat.{ℕ}
use native.Mathlib.Omega.{arith}
use lib.Dec.{ltb}
use lib.ListN.{length}
use Rattle.refusals.specs.Refusals.{Verdict, accepted}
use Rattle.rules.specs.Plans.{Plan}
use Rattle.rules.specs.Order.{First, LeastBound, NoPlan}
use Rattle.refusals.proofs.Refused.{Checks, ruled_yes, ruled_no}
use Rattle.tables.specs.declared.Loaded.{Loaded}
use Rattle.tables.specs.declared.Ask.{Ask}
use Rattle.tables.specs.declared.Answer.{Answer}
use Rattle.tables.specs.Tables.{problem, filled}
use Rattle.tables.proofs.Calls.{call_checks_lem}
use Rattle.tables.proofs.Fills.{fills_found, behind_number}
use Rattle.planning.specs.Planning.{planning_checks, PlansWithin, BoundsWithin}

module _ (l : Loaded) (q : Ask) (old new : List ℕ) (r : Answer) where
  abbrev C : Verdict → Verdict
  C = planning_checks l q (length old)

  checks : Checks C
  checks = call_checks_lem (ltb (length old) q.jobs) q.bound l q

  -- the first plan stands in lent memory
  pub record FoundFirst : Type 0 where
    pub checks : C accepted ≡ accepted
    pub s : Plan
    pub ok : First (problem l q) q.bound s
    pub table : new ≡ filled s q.jobs old

  pub plan_found : PlansWithin l q old new r → r.number ≡ 0 → FoundFirst
  plan_found a z =
      let f = fills_found checks _ 0 q.jobs old a z in
      record { checks = f.checks; s = a.s; ok = (ruled_yes 10 a.v (omega arith) (a.behind f.checks).1 f.zero).1; table = f.table }

  -- where the checks accept, 10 says that there is no plan
  pub plan_none : C accepted ≡ accepted → PlansWithin l q old new r → r.number ≡ 10 → NoPlan (problem l q) q.bound
  plan_none e a z = ruled_no 10 a.v (omega arith) (a.behind e).1 (behind_number checks _ 0 q.jobs old a e ∙ z)

  -- the same of the least bound, which is returned
  pub record FoundLeast : Type 0 where
    pub checks : C accepted ≡ accepted
    pub s : Plan
    pub ok : LeastBound (problem l q) q.bound r.value s
    pub table : new ≡ filled s q.jobs old

  pub bound_found : BoundsWithin l q old new r → r.number ≡ 0 → FoundLeast
  bound_found a z =
      let f = fills_found checks _ 65535 q.jobs old a z in
      record {
        checks = f.checks;
        s = a.s;
        ok = subst (λ (x : ℕ). LeastBound (problem l q) q.bound x a.s) (sym f.value) (ruled_yes 10 a.v (omega arith) (a.behind f.checks) f.zero).1;
        table = f.table;
      }

  -- and there 10 says the same
  pub bound_none : C accepted ≡ accepted → BoundsWithin l q old new r → r.number ≡ 10 → NoPlan (problem l q) q.bound
  bound_none e a z = (ruled_no 10 a.v (omega arith) (a.behind e) (behind_number checks _ 65535 q.jobs old a e ∙ z)).1
