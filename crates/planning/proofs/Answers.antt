-- What planning answers, from what the search found.
-- Assumes nothing.
use mathlib.Core.Path.{◌≡◌, refl, ◌∙◌, subst}
use mathlib.Core.Logic.{inl, inr}
use mathlib.Core.Bool.{Bool, true}
use mathlib.Core.List.{List}
use Prim.Native.Nat.{ℕ, ◌≤◌, min}
use native.Mathlib.Omega.{arith}
use lib.Dec.{ltb}
use lib.ListN.{length}
use Rattle.facts.proofs.Lists.{get_d_any}
use Rattle.refusals.specs.Refusals.{accepted, refused, refused_for}
use Rattle.rules.specs.Premises.{InOrder, enough_time}
use Rattle.rules.specs.Plans.{Plan}
use Rattle.rules.specs.Order.{First, LeastBound, NoPlan}
use Rattle.rules.proofs.Enough.{enough, enough_first}
use Rattle.tables.specs.declared.Loaded.{Loaded}
use Rattle.tables.specs.declared.Ask.{Ask}
use Rattle.tables.specs.declared.Answer.{Answer}
use Rattle.tables.specs.Tables.{problem, answer_of, filled}
use Rattle.tables.specs.Steps.{Judges, Cleared}
use Rattle.tables.proofs.Lent.{filled_same}
use Rattle.tables.proofs.Calls.{call_checks_lem}
use Rattle.tables.proofs.Fills.{fills_fault, fills_refused, fills_behind}
use Rattle.leaves.specs.Leaf.{plan_of}
use Rattle.entries.specs.Entries.{entry}
use Rattle.planning.specs.Derived.{InReach, PlanAt, LeastAt}
use Rattle.planning.specs.Planning.{planning_checks, PlansWithin, BoundsWithin}

-- ── enough time ──

-- the bound, or what is enough where that is less
abbrev pub top : Loaded → Ask → ℕ
top l q = min q.bound (enough_time (problem l q))

module _ (l : Loaded) (q : Ask) (ok : InOrder (problem l q)) (short : q.bound ≤ 2880) where
  -- the first plan within enough time is the first within the bound
  pub first_up : (s : Plan) → First (problem l q) (top l q) s → First (problem l q) q.bound s
  first_up s f = (enough_first (problem l q) ok q.bound (omega arith) s).1 f

  pub none_up : NoPlan (problem l q) (top l q) → NoPlan (problem l q) q.bound
  none_up n z v =
      let r = enough (problem l q) ok q.bound (omega arith) z v in
      n r.0 r.1.valid

  pub least_up : (b : ℕ) (s : Plan) → LeastBound (problem l q) (top l q) b s → LeastBound (problem l q) q.bound b s
  least_up b s f = record { within = omega (arith, f.within); first = f.first; none = f.none }

-- ── answers ──

module _ (l : Loaded) (q : Ask) (old : List ℕ) {f : Answer}
    (j : Judges (planning_checks l q (length old) accepted) (Cleared (ltb (length old) q.jobs) q.bound l q) f) where
  -- the checks refuse
  pub plans_refused : (f.number ≡ 0 → ⊥) → PlansWithin l q old old f
  plans_refused n = fills_fault (call_checks_lem (ltb (length old) q.jobs) q.bound l q) _ 0 q.jobs old j.says refl n

  pub bounds_refused : {r : Answer} → (f.number ≡ 0 → ⊥) → r ≡ answer_of (refused_for f.number f.second f.place) 0 65535 → BoundsWithin l q old old r
  bounds_refused n e = fills_refused (call_checks_lem (ltb (length old) q.jobs) q.bound l q) _ 65535 q.jobs old j.says n e

  module _ (z : f.number ≡ 0) (t : ℕ) (h : t ≡ top l q) where
    ok : Cleared (ltb (length old) q.jobs) q.bound l q
    ok = j.order z

    -- the checks give what the search asks for
    pub in_reach : InReach l q t
    in_reach = record { few = ok.few; order = ok.order; released = ok.released; short = omega (arith, h, ok.within) }

    -- a starting table filled with the starts found
    starts_filled : (st : List ℕ) {new : List ℕ} → length st ≡ 24 → new ≡ filled (entry st) q.jobs old → new ≡ filled (plan_of st) q.jobs old
    starts_filled st n e = e ∙ filled_same (entry st) (plan_of st) q.jobs old (λ i k. get_d_any st i 0 65535 (omega (arith, ok.few)))

    none_of : NoPlan (problem l q) t → NoPlan (problem l q) q.bound
    none_of n = none_up l q ok.order ok.within (subst (λ (b : ℕ). NoPlan (problem l q) b) h n)

    pub plans_none : {r : Answer} → r ≡ answer_of (refused 10 0) 0 0 → NoPlan (problem l q) t → PlansWithin l q old old r
    plans_none e n = fills_behind (call_checks_lem (ltb (length old) q.jobs) q.bound l q) _ 0 q.jobs old j.says z
        (refused 10 0) 0 (λ i. 0) (refl, inr (refl, none_of n)) e refl

    pub plans_found : {r : Answer} {st new : List ℕ} {found : Bool} → r ≡ answer_of accepted 0 0 → new ≡ filled (entry st) q.jobs old → PlanAt (problem l q) t st found → found ≡ true
        → PlansWithin l q old new r
    plans_found {st = st} e w d y = fills_behind (call_checks_lem (ltb (length old) q.jobs) q.bound l q) _ 0 q.jobs old j.says z accepted 0 (plan_of st)
        (refl, inl (refl, first_up l q ok.order ok.within (plan_of st) (subst (λ (b : ℕ). First (problem l q) b (plan_of st)) h (d.first y)))) e (starts_filled st (d.size y) w)

    pub bounds_none : {r : Answer} → r ≡ answer_of (refused 10 0) 0 65535 → NoPlan (problem l q) t → BoundsWithin l q old old r
    bounds_none e n = fills_behind (call_checks_lem (ltb (length old) q.jobs) q.bound l q) _ 65535 q.jobs old j.says z
        (refused 10 0) 65535 (λ i. 0) (inr (refl, (refl, none_of n))) e refl

    pub bounds_found : {r : Answer} {b : ℕ} {st new : List ℕ} → r ≡ answer_of accepted b 0 → new ≡ filled (entry st) q.jobs old → LeastAt (problem l q) t st b
        → BoundsWithin l q old new r
    bounds_found {b = b} {st = st} e w d = fills_behind (call_checks_lem (ltb (length old) q.jobs) q.bound l q) _ 65535 q.jobs old j.says z accepted b (plan_of st)
        (inl (refl, least_up l q ok.order ok.within b (plan_of st) (subst (λ (x : ℕ). LeastBound (problem l q) x b (plan_of st)) h d.found))) e (starts_filled st d.size w)
