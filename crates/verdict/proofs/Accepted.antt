-- The checks of a call with an offered plan, one behind the other, and the plans that are accepted.
-- Assumes nothing.
use mathlib.Core.Path.{◌≡◌, ap, ◌∙◌, subst}
use mathlib.Core.Logic.{◌⊎◌, inl, inr, ◌↔◌}
use mathlib.Core.Bool.{Bool, false, ◌||◌}
use mathlib.Core.List.{List}
use Prim.Native.Nat.{ℕ, ◌≤◌}
use native.Mathlib.Omega.{arith}
use lib.Dec.{T, ltb, ltb→lt}
use lib.ListN.{length}
use Rattle.facts.proofs.Bools.{or_cases, or_l, or_r, at_most}
use Rattle.refusals.specs.Refusals.{Verdict, accepted}
use Rattle.rules.specs.Table.{table_checks, bound_check}
use Rattle.rules.specs.Premises.{InOrder}
use Rattle.rules.specs.Plans.{starts, Valid}
use Rattle.rules.specs.Verdicts.{plan_checks}
use Rattle.refusals.proofs.Refused.{Checks, if_pass, if_zero, then_checks, goes_on, both}
use Rattle.rules.proofs.CheckLists.{table_checks_lem, plan_checks_lem}
use Rattle.rules.proofs.Checked.{in_order}
use Rattle.rules.proofs.Judged.{judged}
use Rattle.tables.specs.declared.Loaded.{Loaded}
use Rattle.tables.specs.declared.Ask.{Ask}
use Rattle.tables.specs.declared.Answer.{Answer}
use Rattle.tables.specs.Tables.{problem, answer_of, call_checks}
use Rattle.tables.specs.Steps.{Judges, Cleared}
use Rattle.tables.proofs.Laws.{said}
use Rattle.tables.proofs.Calls.{call_checks_lem, cleared, accepts_by, stops_there, goes_behind}
use Rattle.verdict.specs.Offered.{offered, ChecksPlan}
use Rattle.verdict.specs.Steps.{Sound, Given}

-- the plan checks accept exactly the valid plans
judge : (l : Loaded) (q : Ask) (s : List ℕ) → InOrder (problem l q)
    → (plan_checks (problem l q) q.bound (starts s) accepted ≡ accepted) ↔ Valid (problem l q) q.bound (starts s)
judge l q s ok = judged (problem l q) ok q.bound (starts s)

module _ (short : Bool) (l : Loaded) (q : Ask) (s : List ℕ) where
  few : Bool
  few = short || ltb (length s) q.jobs

  -- the checks of the table and of the plan are one list of checks
  pub offered_checks : Checks (offered short l q s)
  unfolding few
  offered_checks = then_checks (call_checks_lem few q.bound l q) (plan_checks_lem (problem l q) q.bound (starts s))

  -- ── what an accepted plan has ──

  module _ (e : offered short l q s accepted ≡ accepted) where
    calls : (call_checks few q.bound l q accepted ≡ accepted) × (plan_checks (problem l q) q.bound (starts s) accepted ≡ accepted)
    unfolding few
    calls = both (plan_checks (problem l q) q.bound (starts s) accepted) (call_checks_lem few q.bound l q) e

    pub sound : Sound short l q s
    unfolding few
    sound = let c = cleared few q.bound l q calls.0 in record {
      clear = c;
      room = λ h. c.room (or_l short _ h);
      given = at_most (length s) q.jobs (λ h. c.room (or_r short _ h));
      valid = (judge l q s c.order).0 calls.1;
    }

  -- an answer that says what the checks say
  judged_plan : {r : Answer} → r ≡ answer_of (offered short l q s accepted) 0 0 → Judges (offered short l q s accepted) (Sound short l q s) r
  judged_plan e = record { says = e; order = λ z. sound (accepts_by offered_checks e z) }

  -- ── the answer, check by check ──

  module _ {b : Bool} {t : Answer} (said_few : b ≡ (short || ltb (length s) q.jobs)) (table : Judges (call_checks b q.bound l q accepted) (Cleared b q.bound l q) t) where
    says : t ≡ answer_of (call_checks few q.bound l q accepted) 0 0
    unfolding few
    says = subst (λ (x : Bool). t ≡ answer_of (call_checks x q.bound l q accepted) 0 0) said_few table.says

    -- the table is refused
    pub refuses_table : (t.number ≡ 0 → ⊥) → Judges (offered short l q s accepted) (Sound short l q s) t
    unfolding few
    refuses_table n = judged_plan (stops_there (call_checks_lem few q.bound l q) says n _)

    module _ (zero : t.number ≡ 0) where
      -- at most 24 jobs, and a start for each
      pub bounds : Given q s
      unfolding few
      bounds = let c = cleared few q.bound l q (accepts_by (call_checks_lem few q.bound l q) says zero) in
          (c.few, at_most (length s) q.jobs (λ h. c.room (or_r short _ h)))

      -- the plan is judged
      pub judges_plan : {r : Answer} → r ≡ answer_of (plan_checks (problem l q) q.bound (starts s) accepted) 0 0 → Judges (offered short l q s accepted) (Sound short l q s) r
      unfolding few
      judges_plan e = judged_plan (e ∙ said 0 0 (goes_behind (call_checks_lem few q.bound l q) says zero _))

-- ── exactly these plans are accepted ──

-- the answer's number is 0 exactly when lent memory is long enough, the table is in order by checks 4 to 9 and 20 and the plan is valid
pub exactly : (l : Loaded) (q : Ask) (s : List ℕ) (r : Answer) → ChecksPlan l q s r
    → (r.number ≡ 0)
    ↔ ((q.jobs ≤ length s) × (q.jobs ≤ l.lent) × (table_checks (problem l q) (bound_check q.bound accepted) ≡ accepted) × Valid (problem l q) q.bound (starts s))
unfolding few
exactly l q s r e = (there, back)
  where
    there : r.number ≡ 0
        → (q.jobs ≤ length s) × (q.jobs ≤ l.lent) × (table_checks (problem l q) (bound_check q.bound accepted) ≡ accepted) × Valid (problem l q) q.bound (starts s)
    there z =
        let all = accepts_by (offered_checks false l q s) e z in
        let a = if_zero (ltb (length s) q.jobs || ltb l.lent q.jobs) 3 0 _ (omega arith) (calls false l q s all).0 in
        let k = sound false l q s all in (k.given, at_most l.lent q.jobs (λ h. a.0 (or_r (ltb (length s) q.jobs) _ h)), a.1, k.valid)

    back : (q.jobs ≤ length s) × (q.jobs ≤ l.lent) × (table_checks (problem l q) (bound_check q.bound accepted) ≡ accepted) × Valid (problem l q) q.bound (starts s)
        → r.number ≡ 0
    back (a, b, c, v) =
        let in_table = (both (bound_check q.bound accepted) (table_checks_lem (problem l q)) c).0 in
        let plan : plan_checks (problem l q) q.bound (starts s) accepted ≡ accepted = (judge l q s (in_order (problem l q) in_table)).1 v in
        ap (λ (x : Answer). x.number) e
        ∙ ap (λ (x : Verdict). x.number)
        (goes_on (call_checks (ltb (length s) q.jobs) q.bound l q) (call_checks_lem (ltb (length s) q.jobs) q.bound l q) accepted
        (if_pass (ltb (length s) q.jobs || ltb l.lent q.jobs) 3 0 _ long ∙ c) (plan_checks (problem l q) q.bound (starts s) accepted) ∙ plan)
      where
        long : T (ltb (length s) q.jobs || ltb l.lent q.jobs) → ⊥
        long h = pick (or_cases (ltb (length s) q.jobs) _ h)
          where
            pick : T (ltb (length s) q.jobs) ⊎ T (ltb l.lent q.jobs) → ⊥
            pick (inl x) = omega (arith, ltb→lt (length s) q.jobs x)
            pick (inr x) = omega (arith, ltb→lt l.lent q.jobs x)
