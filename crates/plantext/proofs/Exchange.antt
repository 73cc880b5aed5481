-- The two calls together: what one wrote the other reads, and gives the plan back.
-- Assumes nothing.
use mathlib.Core.Path.{◌≡◌, sym, ap, ◌∙◌, subst}
use mathlib.Core.Logic.{◌⊎◌, inl, inr}
use mathlib.Core.Bool.{Bool, ◌||◌}
use mathlib.Core.List.{List}
use Prim.Native.Nat.{ℕ, ◌/◌, ◌≤◌}
use native.Mathlib.Omega.{arith}
use lib.Dec.{T, ltb, ltb→lt}
use lib.ListN.{length, take, drop}
use lib.Seq.{take-append_seam}
use borrow.Author.Tests.{eq-eqb}
use Rattle.facts.proofs.Bools.{or_l, or_r, or_cases, at_most}
use Rattle.refusals.specs.Refusals.{Verdict, accepted, refuse_if}
use Rattle.refusals.proofs.Refused.{Checks, then_checks, if_pass, if_zero, both, goes_on}
use Rattle.rules.specs.Table.{table_checks, bound_check}
use Rattle.rules.specs.Plans.{starts}
use Rattle.rules.specs.Verdicts.{plan_checks}
use Rattle.rules.proofs.CheckLists.{table_checks_lem}
use Rattle.rules.proofs.Checked.{Passed}
use Rattle.tables.specs.declared.Loaded.{Loaded}
use Rattle.tables.specs.declared.Ask.{Ask}
use Rattle.tables.specs.declared.Answer.{Answer}
use Rattle.tables.specs.Tables.{problem, answer_of, filled, call_checks}
use Rattle.tables.proofs.Lent.{filled_same}
use Rattle.tables.proofs.Laws.{said, numbered, accepts, changed_new}
use Rattle.tables.proofs.Calls.{call_checks_lem, call_passed}
use Rattle.verdict.specs.Offered.{offered}
use Rattle.verdict.specs.Steps.{Sound}
use Rattle.verdict.proofs.Accepted.{offered_checks, sound}
use Rattle.bytes_le.specs.Little.{at_front}
use Rattle.plantext.specs.Names.{names_check}
use Rattle.plantext.specs.Reading.{read_verdict, ReadsText}
use Rattle.plantext.specs.Writing.{steps_text, write_verdict, WritesText}
use Rattle.plantext.proofs.Laws.{names_checks}
use Rattle.plantext.proofs.Back.{Writable, read_back}

module _ (l : Loaded) (q : Ask) (names s : List ℕ) (room : ℕ) (z : (write_verdict l q names s room).number ≡ 0) where
  abbrev short : Bool
  short = ltb (length names / 16) q.jobs || ltb (room / 39) q.jobs

  write_checks_lem : Checks (λ v. offered short l q s (names_check names q.jobs v))
  write_checks_lem = then_checks (offered_checks short l q s) (names_checks names q.jobs)

  parts : (offered short l q s accepted ≡ accepted) × (names_check names q.jobs accepted ≡ accepted)
  unfolding write_verdict
  parts = both (names_check names q.jobs accepted) (offered_checks short l q s) (accepts write_checks_lem z)

  pub valid_plan : Sound short l q s
  valid_plan = sound short l q s parts.0

  call_passes : call_checks (short || ltb (length s) q.jobs) q.bound l q accepted ≡ accepted
  call_passes = (both (plan_checks (problem l q) q.bound (starts s) accepted) (call_checks_lem (short || ltb (length s) q.jobs) q.bound l q) parts.0).0

  pub in_range_lem : Passed (problem l q)
  in_range_lem = call_passed (short || ltb (length s) q.jobs) q.bound l q call_passes

  pub can_write : Writable (problem l q) names q.bound (starts s)
  can_write =
      let n : q.jobs ≤ length names / 16 = at_most (length names / 16) q.jobs (λ h. valid_plan.room (or_l (ltb (length names / 16) q.jobs) _ h)) in
      record {
        named = parts.1;
        room = omega arith;
        bound = valid_plan.clear.within;
        short = λ j m. omega (arith, (in_range_lem.durations j m).1);
        inside = λ j m i. let f = valid_plan.valid.inside j (record { below = m; chosen = i }) in omega (arith, f);
      }

  -- the reader takes the table, the names and the text
  reads_all : (rooms : ℕ) → q.jobs ≤ rooms → read_verdict l q names (steps_text names (problem l q) q.bound (starts s)) rooms ≡ accepted
  unfolding read_verdict bound_check refuse_if
  reads_all rooms m =
      let P = problem l q in
      let text = steps_text names P q.bound (starts s) in
      let table = if_zero (short || ltb (length s) q.jobs || ltb l.lent q.jobs) 3 0 (table_checks P (bound_check q.bound accepted)) (omega arith) call_passes in
      if_pass (ltb rooms q.jobs || ltb (length names / 16) q.jobs || ltb l.lent q.jobs) 3 0 _ (enough rooms m table.0)
      ∙ goes_on (table_checks P) (table_checks_lem P) (bound_check q.bound accepted) table.1 _
      ∙ goes_on (names_check names q.jobs) (names_checks names q.jobs) accepted parts.1 _
      ∙ (read_back P names q.bound (starts s) can_write).0 accepted
    where
      enough : (rooms : ℕ) → q.jobs ≤ rooms → (T ((short || ltb (length s) q.jobs) || ltb l.lent q.jobs) → ⊥) → T ((ltb rooms q.jobs || ltb (length names / 16) q.jobs) || ltb l.lent q.jobs) → ⊥
      enough rooms m n h = go (or_cases (ltb rooms q.jobs || ltb (length names / 16) q.jobs) _ h)
        where
          names_short : T (ltb rooms q.jobs) ⊎ T (ltb (length names / 16) q.jobs) → ⊥
          names_short (inl x) = omega (arith, ltb→lt rooms q.jobs x)
          names_short (inr x) = valid_plan.room (or_l (ltb (length names / 16) q.jobs) (ltb (room / 39) q.jobs) x)

          go : T (ltb rooms q.jobs || ltb (length names / 16) q.jobs) ⊎ T (ltb l.lent q.jobs) → ⊥
          go (inl x) = names_short (or_cases (ltb rooms q.jobs) (ltb (length names / 16) q.jobs) x)
          go (inr x) = n (or_r (short || ltb (length s) q.jobs) (ltb l.lent q.jobs) x)

-- the law: where a plan was written, reading the letters that were written says 0 and gives its starts
pub written_read : (l : Loaded) (q : Ask) (names s old new : List ℕ) (r : Answer) → WritesText l q names s old new r → r.number ≡ 0
    → (old' new' : List ℕ) (r' : Answer) → q.jobs ≤ length old' → ReadsText l q names (take r.value new) old' new' r' → (r' ≡ answer_of accepted 0 0) × (new' ≡ filled (starts s) q.jobs old')
written_read l q names s old new r w n old' new' r' m x =
    let P = problem l q in
    let text = steps_text names P q.bound (starts s) in
    let z : (write_verdict l q names s (length old)).number ≡ 0 = sym (numbered (length text) 0 w.says) ∙ n in
    let value : r.value ≡ length text = ap (λ (a : Answer). a.value) w.says ∙ yea (write_verdict l q names s (length old)) (length text) z in
    let letters : take r.value new ≡ text = ap (λ (k : ℕ). take k new) value ∙ ap (take (length text)) (w.bytes ∙ changed_new (write_verdict l q names s (length old)) (at_front text old) old z) ∙ take-append_seam text (drop (length text) old) in
    let y : ReadsText l q names text old' new' r' = subst (λ (t : List ℕ). ReadsText l q names t old' new' r') letters x in
    let v = reads_all l q names s (length old) z (length old') m in (
      y.says ∙ said 0 0 (sym v),
      y.leaves ∙ changed_new (read_verdict l q names text (length old')) _ old' (ap (λ (u : Verdict). u.number) v)
          ∙ filled_same _ (starts s) q.jobs old' (read_back P names q.bound (starts s) (can_write l q names s (length old) z)).1,
    )
  where
    yea : (v : Verdict) (n : ℕ) → v.number ≡ 0 → (answer_of v n 0).value ≡ n
    yea v n z = simp (eq-eqb v.number 0 z)
