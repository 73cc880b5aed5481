-- The loop over the lines of a text.
-- Assumes nothing.
use mathlib.Core.Path.{◌≡◌, refl, sym, ap, ◌∙◌}
use mathlib.Core.Bool.{Bool, not, ◌||◌}
use mathlib.Core.List.{List}
use Prim.Native.Nat.{ℕ, suc, ◌+◌, ◌≤◌, ◌<◌}
use native.Mathlib.Omega.{arith}
use native.Mathlib.Decide.{ℕ_discrete}
use native.Mathlib.Numerals.{add-one}
use lib.Dec.{T, ltb, le→leb, leb→le}
use lib.ListN.{length, get_or, set, length-set}
use lib.Seq.{get_or-set_same, get_or-set_other}
use borrow.Author.Tests.{eq-eqb}
use Rattle.std.specs.Prelude.{Ok, Err}
use Rattle.facts.proofs.Bools.{not_eqb, eqb_not}
use Rattle.refusals.specs.Refusals.{Verdict, accepted}
use Rattle.rules.specs.Table.{Problem}
use Rattle.rules.specs.Plans.{in_plan}
use Rattle.tables.specs.declared.Answer.{Answer}
use Rattle.tables.specs.Tables.{answer_of}
use Rattle.tables.proofs.Laws.{said, numbered, answer_no}
use Rattle.plantext.specs.Form.{value_at, duration_at, next_line, in_form}
use Rattle.plantext.specs.Names.{job_named}
use Rattle.plantext.specs.Reading.{line_at, line_job, plan_said, formless, line_checks, text_over}
use Rattle.plantext.proofs.Lines.{next_later, Good, good_line, Goes, goes_more, stops_over, stops_bad, jobs_said, no_more_lines, more_said, said_there, said_else}
use Rattle.plantext_read.specs.Steps.{AtLine, SaysLines}

module _ (P : Problem) (names text : List ℕ) where
  -- so far all is good: k lines, which name k jobs
  pub record Going (k at : ℕ) (starts : List ℕ) : Type 0 where
    pub long : length starts ≡ 24
    pub goes : Goes P names text k
    pub place : at ≡ line_at text k
    pub behind : k ≤ at
    pub jobs : k ≤ jobs_said P names text k
    pub told : (j : ℕ) → j < P.count → get_or starts j 0 ≡ plan_said P names text k j

  pub reached : (k at : ℕ) (starts : List ℕ) → Going k at starts → at < length text → AtLine P names text k at starts
  reached k at starts g l = record { place = g.place; within = omega arith; said = g.told }

  pub few_lines : (k at : ℕ) (starts : List ℕ) → Going k at starts → P.count ≤ 24 → k ≤ 24
  few_lines k at starts g l = omega (arith, g.jobs, no_more_lines P names text k)

  pub begins : (starts : List ℕ) → length starts ≡ 24 → ((j : ℕ) → j < 24 → get_or starts j 0 ≡ 65535) → P.count ≤ 24 → Going 0 0 starts
  unfolding line_at plan_said
  begins starts n f l = record {
    long = n;
    goes = record { within = omega arith; lines = λ i h. absurd (omega arith) };
    place = refl;
    behind = omega arith;
    jobs = omega arith;
    told = λ j h. f j (omega arith);
  }

  -- the line that was said to be good
  module _ (k : ℕ) {t : Answer} (e : t ≡ answer_of (line_checks P names text k accepted) (line_job P names text k) 0) (z : t.number ≡ 0) where
    pub passed_line : (line_checks P names text k accepted).number ≡ 0
    passed_line = sym (numbered (line_job P names text k) 0 e) ∙ z

    pub line_is_good : Good P names text k
    line_is_good = good_line P names text k passed_line

    pub job_told : t.value ≡ line_job P names text k
    job_told = ap (λ (a : Answer). a.value) e ∙ yea (line_checks P names text k accepted) (line_job P names text k) passed_line
      where
        yea : (v : Verdict) (n : ℕ) → v.number ≡ 0 → (answer_of v n 0).value ≡ n
        yea v n z = simp (eq-eqb v.number 0 z)

  -- its start and its job are small
  pub start_fits : (k at : ℕ) (starts : List ℕ) {t : ℕ} → Going k at starts → Good P names text k → t ≡ value_at text at → t ≤ 2880
  start_fits k at starts g good e = omega (arith, e ∙ ap (value_at text) g.place, good.early)

  pub job_fits_lem : (k : ℕ) {j : ℕ} → P.count ≤ 24 → Good P names text k → j ≡ line_job P names text k → j < 24
  job_fits_lem k l good e = omega (arith, good.known)

  -- one line more
  pub goes_on : (k at : ℕ) (starts : List ℕ) (j t next : ℕ) → Going k at starts → P.count ≤ 24 → at < length text → (line_checks P names text k accepted).number ≡ 0 → Good P names text k
      → j ≡ line_job P names text k → t ≡ value_at text at → next ≡ next_line text at → Going (k + 1) next (set starts j t)
  unfolding line_at
  goes_on k at starts j t next g few l z good e f n = rw (add-one k) (record {
    long = length-set starts j t ∙ g.long;
    goes = goes_more P names text k g.goes (omega (arith, g.place)) (omega (arith, g.place, g.behind)) z;
    place = n ∙ ap (next_line text) g.place;
    behind = omega (arith, g.behind, next_later text at);
    jobs = omega (arith, g.jobs, more_said P names text k good);
    told = λ i h. go i h (ℕ_discrete i j);
  })
    where
      go : (i : ℕ) → i < P.count → Dec (i ≡ j) → get_or (set starts j t) i 0 ≡ plan_said P names text (suc k) i
      go i h (yes x) = rw (x, e) (get_or-set_same starts (line_job P names text k) t 0 (omega (arith, g.long, good.known)) ∙ f ∙ ap (value_at text) g.place ∙ sym (said_there P names text k))
      go i h (no x) = get_or-set_other starts j i t 0 x ∙ g.told i h ∙ sym (said_else P names text k i (λ y. x (y ∙ sym e)))

  -- the first bad line
  pub ends_bad : (k at : ℕ) (starts : List ℕ) {t : Answer} → Going k at starts → at < length text → t ≡ answer_of (line_checks P names text k accepted) (line_job P names text k) 0 → (t.number ≡ 0 → ⊥)
      → SaysLines P names text (Err t)
  unfolding text_over
  ends_bad k at starts {t} g l e n =
      let b : (line_checks P names text k accepted).number ≡ 0 → ⊥ = λ z. n (numbered (line_job P names text k) 0 e ∙ z) in
      (e ∙ answer_no (line_checks P names text k accepted) (line_job P names text k) 0 0 b ∙ said 0 0 (stops_bad P names text k g.goes (λ x. omega (arith, leb→le (length text) (line_at text k) x, g.place)) b accepted), n)

  -- the end of the text
  pub ends_over : (k at : ℕ) (starts : List ℕ) → Going k at starts → length text ≤ at → SaysLines P names text (Ok starts)
  unfolding text_over
  ends_over k at starts g l =
      let o = stops_over P names text k g.goes (le→leb (length text) (line_at text k) (omega (arith, g.place))) in
      (o.1 accepted, λ j h. g.told j h ∙ ap (λ (i : ℕ). plan_said P names text i j) (sym o.0))

-- ── one line ──

module _ (P : Problem) (names text : List ℕ) (k : ℕ) {at : ℕ} (p : at ≡ line_at text k) where
  pub formed : {r : Bool} → r ≡ (not (in_form text at) || ltb 2880 (value_at text at)) → r ≡ formless text k
  unfolding formless
  formed e = e ∙ ap (λ (i : ℕ). not (in_form text i) || ltb 2880 (value_at text i)) p

  pub named : {j : ℕ} → j ≡ job_named names P.count text at → j ≡ line_job P names text k
  unfolding line_job
  named e = e ∙ ap (job_named names P.count text) p

  module _ (xs : List ℕ) (j : ℕ) (e : j ≡ line_job P names text k) (h : j < P.count) (f : (i : ℕ) → i < P.count → get_or xs i 0 ≡ plan_said P names text k i) where
    pub in_said : (get_or xs j 0 ≡ 65535 → ⊥) → T (in_plan (plan_said P names text k) (line_job P names text k))
    unfolding in_plan
    in_said n = not_eqb _ 65535 (λ x. n (f j h ∙ ap (plan_said P names text k) e ∙ x))

    pub out_said : get_or xs j 0 ≡ 65535 → T (in_plan (plan_said P names text k) (line_job P names text k)) → ⊥
    unfolding in_plan
    out_said o x = eqb_not _ 65535 x (ap (plan_said P names text k) (sym e) ∙ sym (f j h) ∙ o)

  pub long_said : {d v : ℕ} → d ≡ duration_at text at → v ≡ value_at text d → v ≡ value_at text (duration_at text (line_at text k))
  long_said e f = f ∙ ap (value_at text) (e ∙ ap (duration_at text) p)
