-- A call behind checks 3 to 9 and 20.
-- Assumes nothing.
use mathlib.Core.Path.{◌≡◌, sym, ◌∙◌}
use mathlib.Core.Bool.{Bool, ◌||◌}
use Prim.Native.Nat.{ℕ}
use native.Mathlib.Omega.{arith}
use lib.Dec.{ltb}
use Rattle.facts.proofs.Bools.{or_l, at_most}
use Rattle.refusals.specs.Refusals.{Verdict, accepted}
use Rattle.rules.specs.Table.{table_checks, bound_check}
use Rattle.refusals.proofs.Refused.{Checks, if_checks, then_checks, if_zero, both, stopped, went_on}
use Rattle.rules.proofs.CheckLists.{table_checks_lem, bound_checks}
use Rattle.rules.proofs.Checked.{Passed, passed, in_order}
use Rattle.tables.specs.declared.Loaded.{Loaded}
use Rattle.tables.specs.declared.Ask.{Ask}
use Rattle.tables.specs.declared.Answer.{Answer}
use Rattle.tables.specs.Tables.{problem, answer_of, call_checks}
use Rattle.tables.specs.Steps.{Judges, Cleared}
use Rattle.tables.proofs.Laws.{said, numbered, accepts}

-- a list of checks whose answer has number 0 accepts
pub accepts_by : {C : Verdict → Verdict} {r : Answer} → Checks C → r ≡ answer_of (C accepted) 0 0 → r.number ≡ 0 → C accepted ≡ accepted
accepts_by k e z = accepts k (sym (numbered 0 0 e) ∙ z)

-- ── more checks behind a list of checks ──

module _ {C : Verdict → Verdict} {t : Answer} (k : Checks C) (e : t ≡ answer_of (C accepted) 0 0) where
  -- where the answer refuses, it is the answer whatever comes behind
  pub stops_there : (t.number ≡ 0 → ⊥) → (next : Verdict) → t ≡ answer_of (C next) 0 0
  stops_there n next = e ∙ said 0 0 (stopped C k (λ z. n (numbered 0 0 e ∙ z)) next)

  -- where it accepts, what comes behind is said
  pub goes_behind : t.number ≡ 0 → (next : Verdict) → C next ≡ next
  goes_behind z next = went_on C k (sym (numbered 0 0 e) ∙ z) next

-- ── checks 3 to 9 and 20 ──

module _ (short : Bool) (bound : ℕ) (l : Loaded) (q : Ask) where
  pub call_checks_lem : Checks (call_checks short bound l q)
  call_checks_lem = then_checks (if_checks (short || ltb l.lent q.jobs) 3 0 (omega arith)) (then_checks (table_checks_lem (problem l q)) (bound_checks bound))

  module _ (e : call_checks short bound l q accepted ≡ accepted) where
    in_table : table_checks (problem l q) accepted ≡ accepted
    in_table = (both (bound_check bound accepted) (table_checks_lem (problem l q)) (if_zero (short || ltb l.lent q.jobs) 3 0 _ (omega arith) e).1).0

    -- where they accept, the table has passed
    pub call_passed : Passed (problem l q)
    call_passed = passed (problem l q) in_table

    -- and the call is clear of them
    pub cleared : Cleared short bound l q
    unfolding bound_check
    cleared = record {
      room = λ s. (if_zero (short || ltb l.lent q.jobs) 3 0 _ (omega arith) e).0 (or_l short _ s);
      few = call_passed.count;
      order = in_order (problem l q) in_table;
      released = call_passed.releases;
      within = at_most 2880 bound (if_zero (ltb 2880 bound) 9 0 accepted (omega arith) (both (bound_check bound accepted) (table_checks_lem (problem l q)) (if_zero (short || ltb l.lent q.jobs) 3 0 _ (omega arith) e).1).1).0;
    }

  -- an answer that says what the checks say
  pub judged_call : {r : Answer} → r ≡ answer_of (call_checks short bound l q accepted) 0 0 → Judges (call_checks short bound l q accepted) (Cleared short bound l q) r
  judged_call e = record { says = e; order = λ z. cleared (accepts_by call_checks_lem e z) }
