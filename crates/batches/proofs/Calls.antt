-- What the tests of the expander say of its checks, and what it returns.
-- Assumes nothing.
use mathlib.Core.Path.{◌≡◌, sym, ap, ◌∙◌}
use mathlib.Core.List.{List}
use Prim.Native.Nat.{ℕ, ◌≤◌, ◌<◌, min}
use native.Mathlib.Nat.{le_refl}
use native.Mathlib.Omega.{arith}
use Rattle.std.specs.Prelude.{Option, Some, None}
use native.Mathlib.Decide.{dec_lt}
use lib.Dec.{T, le→leb, lt→ltb, ltb→lt}
use lib.ListN.{length, get_or}
use Rattle.facts.specs.Least.{any}
use Rattle.facts.specs.Tests.{some_least}
use Rattle.facts.proofs.Least.{any_of, found_any, found_none, first_some, first_none}
use Rattle.refusals.specs.Refusals.{Verdict, accepted, refused}
use Rattle.refusals.proofs.Refused.{if_hit, if_pass}
use Rattle.tables.specs.declared.Answer.{Answer}
use Rattle.tables.specs.Tables.{answer_of, job_at}
use Rattle.tables.proofs.Laws.{said}
use Rattle.jobfile.specs.declared.Read.{Read}
use Rattle.jobfile.specs.Calls.{nothing}
use Rattle.batches.specs.Batches.{job_count, unknown, batch_checks, no_table, Expands}
use Rattle.batches.specs.Steps.{AllKnown, batched, HandedOut}

-- ── the checks, one by one ──

pub no_unknown : (gs : List ℕ) → (T (any (unknown gs) (length gs)) → ⊥) → AllKnown gs
no_unknown gs none c m = go (dec_lt (get_or gs c 0) 12)
  where
    go : Dec (get_or gs c 0 < 12) → get_or gs c 0 < 12
    go (yes h) = h
    go (no h) = absurd (none (any_of (unknown gs) (length gs) c m (le→leb 12 (get_or gs c 0) (omega arith))))

module _ (gs : List ℕ) (room : ℕ) {r : Option ℕ} (e : r ≡ some_least (unknown gs) (length gs)) where
  pub checks_28 : {b : ℕ} → r ≡ Some b → batch_checks gs room ≡ refused 28 (min b 65535)
  unfolding batch_checks
  checks_28 is =
      let h = first_some _ _ e is in
      if_hit _ 28 _ _ (found_any (unknown gs) h.0 h.1) ∙ ap (λ (k : ℕ). refused 28 (min k 65535)) (sym h.0)

  module _ (is : r ≡ None) where
    none : T (any (unknown gs) (length gs)) → ⊥
    none = found_none (unknown gs) (first_none _ _ e is) (le_refl (length gs))

    pub all_known : AllKnown gs
    all_known = no_unknown gs none

    pub checks_29 : 4 < length gs → batch_checks gs room ≡ refused 29 4
    unfolding batch_checks
    checks_29 h = if_pass _ 28 _ _ none ∙ if_hit _ 29 4 _ (lt→ltb 4 (length gs) h)

    module _ (few : length gs ≤ 4) {jobs : ℕ} (j : jobs ≡ job_count gs) where
      pub checks_30 : 24 < jobs → batch_checks gs room ≡ refused 30 0
      unfolding batch_checks
      checks_30 h =
          if_pass _ 28 _ _ none
          ∙ (if_pass _ 29 4 _ (λ x. omega (arith, ltb→lt 4 (length gs) x)) ∙ if_hit _ 30 0 _ (lt→ltb 24 (job_count gs) (omega (arith, j))))

      module _ (fits : jobs ≤ 24) where
        pub checks_3 : room < jobs → batch_checks gs room ≡ refused 3 0
        unfolding batch_checks
        checks_3 h =
            if_pass _ 28 _ _ none
            ∙ (if_pass _ 29 4 _ (λ x. omega (arith, ltb→lt 4 (length gs) x))
            ∙ (if_pass _ 30 0 _ (λ x. omega (arith, j, ltb→lt 24 (job_count gs) x)) ∙ if_hit _ 3 0 _ (lt→ltb room (job_count gs) (omega (arith, j)))))

        pub checks_pass : jobs ≤ room → batch_checks gs room ≡ accepted
        unfolding batch_checks
        checks_pass h =
            if_pass _ 28 _ _ none
            ∙ (if_pass _ 29 4 _ (λ x. omega (arith, ltb→lt 4 (length gs) x))
            ∙ (if_pass _ 30 0 _ (λ x. omega (arith, j, ltb→lt 24 (job_count gs) x)) ∙ if_pass _ 3 0 _ (λ x. omega (arith, j, ltb→lt room (job_count gs) x))))

-- ── what is returned ──

module _ (gs : List ℕ) (room : ℕ) (r : Read) where
  pub gives_nothing : {a : Answer} (n k : ℕ) → r ≡ nothing a → a ≡ answer_of (refused n k) 0 0 → batch_checks gs room ≡ refused n k → 0 < n → Expands gs room (job_at r.table) (batched r)
  gives_nothing {a} n k e h v p = record {
    says = ap (λ (x : Read). x.answer) e ∙ (h ∙ said 0 0 v);
    table = λ y. let z : n ≡ 0 = ap (λ (x : Verdict). x.number) (sym v ∙ y) in absurd (omega arith);
    none = λ y. ap batched e ∙ ap no_table (ap (λ (x : Read). x.answer) (sym e));
  }

  pub gives_table : HandedOut gs r → batch_checks gs room ≡ accepted → Expands gs room (job_at r.table) (batched r)
  gives_table x v = record { says = x.done ∙ said 0 0 v; table = λ y. x.table; none = λ y. absurd (y v) }
