-- The promises of planning within a bound and of the least bound leave one result: the answer and all lent memory.
-- Assumes nothing.
use mathlib.Core.Path.{◌≡◌, sym, ◌∙◌}
use mathlib.Core.List.{List}
use Prim.Native.Nat.{ℕ}
use native.Mathlib.Omega.{arith}
use lib.Dec.{ltb}
use lib.ListN.{length}
use Rattle.refusals.proofs.Refused.{ruled_yes}
use Rattle.rules.proofs.Orders.{planned_only, bounded_only}
use Rattle.tables.specs.declared.Loaded.{Loaded}
use Rattle.tables.specs.declared.Ask.{Ask}
use Rattle.tables.specs.declared.Answer.{Answer}
use Rattle.tables.specs.Tables.{problem}
use Rattle.tables.proofs.Calls.{call_checks_lem}
use Rattle.tables.proofs.Fills.{fills_only}
use Rattle.planning.specs.Planning.{PlansWithin, BoundsWithin}

module _ (l : Loaded) (q : Ask) (old new new' : List ℕ) (r r' : Answer) where
  pub plan_within_only : PlansWithin l q old new r → PlansWithin l q old new' r' → (r ≡ r') × (new ≡ new')
  plan_within_only x y =
      fills_only (call_checks_lem (ltb (length old) q.jobs) q.bound l q) _ 0 q.jobs old
      (λ k v w b c s t a d. (let o = planned_only (problem l q) q.bound v w s t a.1 d.1 in (o.0, a.0 ∙ sym d.0, λ z. o.1 (ruled_yes 10 v (omega arith) a.1 z).0)))
      r r' new new' x y

  pub least_bound_only : BoundsWithin l q old new r → BoundsWithin l q old new' r' → (r ≡ r') × (new ≡ new')
  least_bound_only x y =
      fills_only (call_checks_lem (ltb (length old) q.jobs) q.bound l q) _ 65535 q.jobs old
      (λ k v w b c s t a d. (let o = bounded_only (problem l q) q.bound v w b c s t a d in (o.0, o.1, λ z. o.2 (ruled_yes 10 v (omega arith) a z).0)))
      r r' new new' x y
