-- Useless planners break the promises: one that always says 10, that always gives the empty plan, that writes nothing, and one that
-- names a least bound without having tried those below.
-- Assumes nothing.
use mathlib.Core.Path.{◌≡◌, refl, sym, ap, ◌∙◌}
use mathlib.Core.Bool.{Bool, false}
use mathlib.Core.List.{List, [], ◌∷◌}
use Prim.Native.Nat.{ℕ, ◌≤◌, ◌<◌}
use native.Mathlib.Omega.{arith}
use borrow.Author.Tests.{le-ltb}
use lib.ListN.{length, get_or}
use Rattle.facts.specs.Facts.{has, after}
use Rattle.facts.specs.Least.{least, further, any}
use Rattle.refusals.specs.Refusals.{Verdict, accepted, refused_for, refuse_if, refuse_at, refuse_for}
use Rattle.rules.specs.Table.{Problem, between, strays, job_strays, undoes, job_checks, table_checks, bound_check}
use Rattle.rules.specs.Premises.{InOrder}
use Rattle.rules.specs.Clashes.{spoils, clash_of, interfere}
use Rattle.rules.specs.Plans.{starts, in_plan, ends, after_if, finishes, holds, Valid}
use Rattle.rules.specs.Verdicts.{late, early, overlap, clashes, clash_fact, unready, missing, plan_checks}
use Rattle.rules.proofs.Judged.{judged}
use Rattle.rules.proofs.Orders.{wider}
use Rattle.tables.specs.declared.Answer.{Answer}
use Rattle.tables.specs.Tables.{unmarked, problem, call_checks}
use Rattle.tables.proofs.Lent.{filled_at}
use Rattle.rules.proofs.Checked.{in_order}
use Rattle.bindings.proofs.Useless.{jobs_u, ask_u, plan3}
use Rattle.planning.specs.Planning.{PlansWithin, BoundsWithin}
use Rattle.planning.proofs.Found.{plan_found, plan_none, bound_found, bound_none}
use Rattle.rules.proofs.SamePlan.{valid_same}

-- goals {2, 3} within 12, and {2, 3, 4} within 14
abbrev P1 : Problem
P1 = problem jobs_u (ask_u 12 12)

abbrev P3 : Problem
P3 = problem jobs_u (ask_u 28 14)

table1 : table_checks P1 accepted ≡ accepted
unfolding table_checks job_checks between strays job_strays undoes refuse_at refuse_for refuse_if has any least further unmarked
table1 = refl

table3 : table_checks P3 accepted ≡ accepted
unfolding table_checks job_checks between strays job_strays undoes refuse_at refuse_for refuse_if has any least further unmarked
table3 = refl

order1 : InOrder P1
order1 = in_order P1 table1

order3 : InOrder P3
order3 = in_order P3 table3

-- ── plans that are valid, and plans that are not ──

p1 : plan_checks P1 12 (starts (0 ∷ 4 ∷ 4 ∷ 65535 ∷ [])) accepted ≡ accepted
unfolding plan_checks refuse_at refuse_for refuse_if late early clashes clash_fact overlap unready missing interfere clash_of spoils holds finishes after_if ends in_plan after has any least further unmarked
p1 = refl

valid1 : Valid P1 12 (starts (0 ∷ 4 ∷ 4 ∷ 65535 ∷ []))
valid1 = (judged P1 order1 12 (starts (0 ∷ 4 ∷ 4 ∷ 65535 ∷ []))).0 p1

p3 : plan_checks P3 12 (starts plan3) accepted ≡ accepted
unfolding plan_checks refuse_at refuse_for refuse_if late early clashes clash_fact overlap unready missing interfere clash_of spoils holds finishes after_if ends in_plan after has any least further unmarked
p3 = refl

valid3 : Valid P3 12 (starts plan3)
valid3 = (judged P3 order3 12 (starts plan3)).0 p3

-- no job at all
abbrev pub empty : List ℕ
empty = 65535 ∷ 65535 ∷ 65535 ∷ 65535 ∷ []

-- memory as a caller may lend it
abbrev pub untouched : List ℕ
untouched = 0 ∷ 0 ∷ 0 ∷ 0 ∷ []

empty_fails : plan_checks P1 12 (starts empty) accepted ≡ refused_for 14 0 2
unfolding plan_checks refuse_at refuse_for refuse_if late early clashes clash_fact overlap unready missing interfere clash_of spoils holds finishes after_if ends in_plan after has any least further unmarked
empty_fails = refl

untouched_fails : plan_checks P1 12 (starts untouched) accepted ≡ refused_for 12 2 1
unfolding plan_checks refuse_at refuse_for refuse_if late early clashes clash_fact overlap unready missing interfere clash_of spoils holds finishes after_if ends in_plan after has any least further unmarked
untouched_fails = refl

-- ── the promise at P1 ──

passes1 : call_checks false 12 jobs_u (ask_u 12 12) accepted ≡ accepted
unfolding bound_check table_checks job_checks between strays job_strays undoes refuse_at refuse_for refuse_if has any least further unmarked
passes1 = refl

module _ (old new : List ℕ) (r : Answer) (room : 4 ≤ length old) (p : PlansWithin jobs_u (ask_u 12 12) old new r) where
  -- always 10
  pub always_10 : r.number ≡ 10 → ⊥
  always_10 z = plan_none jobs_u (ask_u 12 12) old new r
      (ap (λ (b : Bool). call_checks b 12 jobs_u (ask_u 12 12) accepted) (le-ltb (length old) 4 room) ∙ passes1) p z _ valid1

  -- what is given is valid
  given : (zs : List ℕ) → r.number ≡ 0 → ((i : ℕ) → i < 4 → get_or new i 0 ≡ get_or zs i 0) → Valid P1 12 (starts zs)
  given zs z e =
      let f = plan_found jobs_u (ask_u 12 12) old new r p z in
      valid_same P1 f.s (starts zs)
      (λ i h. sym (filled_at f.s 4 old i 0 h (omega arith)) ∙ sym (ap (λ (l : List ℕ). get_or l i 0) f.table) ∙ e i h) 12 f.ok.ok

  -- so a plan that the checks refuse is not given
  not_given : (zs : List ℕ) (n x k : ℕ) → 0 < n → plan_checks P1 12 (starts zs) accepted ≡ refused_for n x k → r.number ≡ 0 → ((i : ℕ) → i < 4 → get_or new i 0 ≡ get_or zs i 0) → ⊥
  not_given zs n x k l h z e =
      let o : n ≡ 0 = ap (λ (v : Verdict). v.number) (sym h ∙ (judged P1 order1 12 (starts zs)).1 (given zs z e)) in
      omega arith

  -- always the empty plan
  pub always_empty : r.number ≡ 0 → ((i : ℕ) → i < 4 → get_or new i 0 ≡ get_or empty i 0) → ⊥
  always_empty = not_given empty 14 0 2 (omega arith) empty_fails

  -- returns and writes nothing
  pub writes_nothing : r.number ≡ 0 → new ≡ old → ((i : ℕ) → i < 4 → get_or old i 0 ≡ get_or untouched i 0) → ⊥
  writes_nothing z e h = not_given untouched 12 2 1 (omega arith) untouched_fails z (λ i l. ap (λ (x : List ℕ). get_or x i 0) e ∙ h i l)

-- ── the promise at P3 ──

passes3 : call_checks false 14 jobs_u (ask_u 28 14) accepted ≡ accepted
unfolding bound_check table_checks job_checks between strays job_strays undoes refuse_at refuse_for refuse_if has any least further unmarked
passes3 = refl

module _ (old new : List ℕ) (r : Answer) (p : BoundsWithin jobs_u (ask_u 28 14) old new r) where
  -- a least bound that always says 10
  pub least_always_10 : 4 ≤ length old → r.number ≡ 10 → ⊥
  least_always_10 room z = bound_none jobs_u (ask_u 28 14) old new r
      (ap (λ (b : Bool). call_checks b 14 jobs_u (ask_u 28 14) accepted) (le-ltb (length old) 4 room) ∙ passes3) p z _ (wider P3 12 14 (starts plan3) (omega arith) valid3)

  -- one that names a bound over 12, those below it only said to have been tried
  pub only_claimed : r.number ≡ 0 → 12 < r.value → ⊥
  only_claimed z l = (bound_found jobs_u (ask_u 28 14) old new r p z).ok.none 12 (starts plan3) l valid3

  -- so one that tries 0, where there is no plan, and gives the bound that was given
  pub only_0_tried : r.number ≡ 0 → r.value ≡ 14 → ⊥
  only_0_tried z e = only_claimed z (omega arith)
