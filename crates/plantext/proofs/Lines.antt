-- Line by line: what a good line is, where reading stops, and that no text has more good lines than there are jobs.
-- Assumes nothing.
use mathlib.Core.Path.{◌≡◌, refl, sym, ap, ◌∙◌, subst}
use mathlib.Core.Logic.{◌⊎◌, inl, inr}
use mathlib.Core.Bool.{Bool, true, false, not, cond, ◌||◌}
use mathlib.Core.List.{List}
use Prim.Native.Nat.{ℕ, suc, ◌+◌, ◌≤◌, ◌<◌}
use native.Mathlib.Omega.{arith}
use native.Mathlib.Decide.{ℕ_discrete}
use lib.Dec.{T, T_not, eqb, ltb, eqb→eq, leb→le, ltb→lt}
use lib.ListN.{length}
use Rattle.facts.proofs.Bools.{certain, chosen, unchosen, eqb_of, not_eqb, eqb_not, or_cases, or_l, or_r, at_most, below_suc}
use Rattle.facts.proofs.Least.{lowest, least_is}
use Rattle.refusals.specs.Refusals.{Verdict, accepted, refused, refuse_if}
use Rattle.refusals.proofs.Refused.{if_hit, if_pass, if_other, Checks, if_checks, then_checks, Second, seconds}
use Rattle.rules.specs.Table.{Problem}
use Rattle.rules.specs.Plans.{in_plan}
use Rattle.rules.specs.Sums.{sum}
use Rattle.rules.proofs.Sums.{sum_le, sum_of, sum_more, cond_yes, cond_no}
use Rattle.plantext.specs.Form.{digits_end, point_at, zeros_end, number_end, value_at, name_at, name_length, name_end, duration_at, next_line, in_form}
use Rattle.plantext.specs.Names.{is_named, job_named}
use Rattle.plantext.specs.Reading.{line_at, line_job, plan_said, formless, line_checks, text_over, lines_read, text_checks}

-- a number does not end before it begins
end_later : (text : List ℕ) (at : ℕ) → at ≤ number_end text at
unfolding number_end zeros_end digits_end
end_later text at = go (point_at text (digits_end text at)) (zeros_end text (digits_end text at + 1)) (omega arith)
  where
    go : (b : Bool) (z : ℕ) → digits_end text at + 1 ≤ z → at ≤ cond b z (digits_end text at)
    go true z l = omega arith
    go false z l = omega arith

pub next_later : (text : List ℕ) (at : ℕ) → at < next_line text at
unfolding next_line duration_at name_end name_at
next_later text at = omega (arith, end_later text at, end_later text (duration_at text at))

module _ (P : Problem) (names text : List ℕ) where
  -- ── one line ──

  -- what checks 23 to 26 ask of line k
  pub record Good (k : ℕ) : Type 0 where
    pub form : T (in_form text (line_at text k))
    pub early : value_at text (line_at text k) ≤ 2880
    pub known : line_job P names text k < P.count
    pub fresh : T (in_plan (plan_said P names text k) (line_job P names text k)) → ⊥
    pub lasts : value_at text (duration_at text (line_at text k)) ≡ P.duration (line_job P names text k)

  -- as code finds it: the first fault decides
  module _ (k : ℕ) (next : Verdict) where
    pub bad_form : T (formless text k) → line_checks P names text k next ≡ refused 23 k
    unfolding line_checks
    bad_form f = if_hit (formless text k) 23 k _ f

    module _ (f : T (formless text k) → ⊥) where
      pub bad_name : line_job P names text k ≡ P.count → line_checks P names text k next ≡ refused 24 k
      unfolding line_checks
      bad_name e = if_pass (formless text k) 23 k _ f ∙ if_hit (eqb (line_job P names text k) P.count) 24 k _ (eqb_of e)

      module _ (n : line_job P names text k ≡ P.count → ⊥) where
        pub bad_twice : T (in_plan (plan_said P names text k) (line_job P names text k)) → line_checks P names text k next ≡ refused 25 k
        unfolding line_checks
        bad_twice i =
            if_pass (formless text k) 23 k _ f ∙ if_pass (eqb (line_job P names text k) P.count) 24 k _ (λ h. n (eqb→eq (line_job P names text k) P.count h))
            ∙ if_hit (in_plan (plan_said P names text k) (line_job P names text k)) 25 k _ i

        module _ (o : T (in_plan (plan_said P names text k) (line_job P names text k)) → ⊥) where
          to_last : line_checks P names text k next ≡ refuse_if (not (eqb (value_at text (duration_at text (line_at text k))) (P.duration (line_job P names text k)))) 26 k next
          unfolding line_checks
          to_last =
              if_pass (formless text k) 23 k _ f ∙ if_pass (eqb (line_job P names text k) P.count) 24 k _ (λ h. n (eqb→eq (line_job P names text k) P.count h))
              ∙ if_pass (in_plan (plan_said P names text k) (line_job P names text k)) 25 k _ o

          pub bad_long : (value_at text (duration_at text (line_at text k)) ≡ P.duration (line_job P names text k) → ⊥) → line_checks P names text k next ≡ refused 26 k
          bad_long d = to_last ∙ if_hit (not (eqb (value_at text (duration_at text (line_at text k))) (P.duration (line_job P names text k)))) 26 k next (not_eqb _ _ d)

          pub no_fault : value_at text (duration_at text (line_at text k)) ≡ P.duration (line_job P names text k) → line_checks P names text k next ≡ next
          no_fault d = to_last ∙ if_pass (not (eqb (value_at text (duration_at text (line_at text k))) (P.duration (line_job P names text k)))) 26 k next (λ h. eqb_not _ _ h d)

  -- a good line passes
  pub passes_good : (k : ℕ) → Good k → (next : Verdict) → line_checks P names text k next ≡ next
  unfolding formless
  passes_good k g next =
      no_fault k next (λ h. formed (or_cases (not (in_form text (line_at text k))) (ltb 2880 (value_at text (line_at text k))) h)) (λ e. omega (arith, g.known)) g.fresh g.lasts
    where
      formed : T (not (in_form text (line_at text k))) ⊎ T (ltb 2880 (value_at text (line_at text k))) → ⊥
      formed (inl x) = T_not (in_form text (line_at text k)) x g.form
      formed (inr x) = omega (arith, ltb→lt 2880 (value_at text (line_at text k)) x, g.early)

  -- and a line that passes is good
  pub good_line : (k : ℕ) → (line_checks P names text k accepted).number ≡ 0 → Good k
  unfolding line_checks formless line_job job_named
  good_line k z =
      let one = if_other (formless text k) 23 k _ (omega arith) z in
      let two = if_other (eqb (line_job P names text k) P.count) 24 k _ (omega arith) one.1 in
      let three = if_other (in_plan (plan_said P names text k) (line_job P names text k)) 25 k _ (omega arith) two.1 in
      let four = if_other (not (eqb (value_at text (duration_at text (line_at text k))) (P.duration (line_job P names text k)))) 26 k accepted (omega arith) three.1 in
      record {
        form = certain (in_form text (line_at text k)) (λ h. one.0 (or_l (not (in_form text (line_at text k))) _ h));
        early = at_most 2880 (value_at text (line_at text k)) (λ h. one.0 (or_r (not (in_form text (line_at text k))) _ h));
        known = below (ℕ_discrete (line_job P names text k) P.count) two.0;
        fresh = three.0;
        lasts = eqb→eq _ _ (certain (eqb (value_at text (duration_at text (line_at text k))) (P.duration (line_job P names text k))) four.0);
      }
    where
      below : Dec (line_job P names text k ≡ P.count) → (T (eqb (line_job P names text k) P.count) → ⊥) → line_job P names text k < P.count
      below (yes e) n = absurd (n (eqb_of e))
      below (no x) n = omega (arith, (lowest (λ j. is_named names j text (name_at text (line_at text k)) (name_length text (line_at text k))) P.count).within)

  -- ── where reading stops ──

  -- the first k lines are good and stand within the text
  pub record Goes (k : ℕ) : Type 0 where
    pub within : k ≤ length text
    pub lines : (i : ℕ) → i < k → (T (text_over text i) → ⊥) × ((line_checks P names text i accepted).number ≡ 0)

  stop : ℕ → Bool
  stop i = text_over text i || not (eqb (line_checks P names text i accepted).number 0)

  stops : (k : ℕ) → Goes k → T (stop k) → lines_read P names text ≡ k
  unfolding lines_read stop
  stops k g h = sym (least_is stop (length text) k (record {
    within = g.within;
    hit = λ l. h;
    first = λ i l x. go i l (or_cases (text_over text i) _ x);
  }))
    where
      go : (i : ℕ) → i < k → T (text_over text i) ⊎ T (not (eqb (line_checks P names text i accepted).number 0)) → ⊥
      go i l (inl x) = (g.lines i l).0 x
      go i l (inr x) = eqb_not (line_checks P names text i accepted).number 0 x (g.lines i l).1

  -- at the end of the text all its lines are read
  pub stops_over : (k : ℕ) → Goes k → T (text_over text k) → (lines_read P names text ≡ k) × ((next : Verdict) → text_checks P names text next ≡ next)
  unfolding text_checks stop
  stops_over k g h =
      let e = stops k g (or_l (text_over text k) _ h) in
      (e, λ next. chosen (text_over text (lines_read P names text)) _ _ (subst (λ (i : ℕ). T (text_over text i)) (sym e) h))

  -- at a bad line its refusal is said
  pub stops_bad : (k : ℕ) → Goes k → (T (text_over text k) → ⊥) → ((line_checks P names text k accepted).number ≡ 0 → ⊥) → (next : Verdict) → text_checks P names text next ≡ line_checks P names text k next
  unfolding text_checks stop
  stops_bad k g h b next =
      let e = stops k g (or_r (text_over text k) _ (not_eqb (line_checks P names text k accepted).number 0 b)) in
      unchosen (text_over text (lines_read P names text)) _ _ (λ x. h (subst (λ (i : ℕ). T (text_over text i)) e x)) ∙ ap (λ (i : ℕ). line_checks P names text i next) e

  -- one good line more
  pub goes_more : (k : ℕ) → Goes k → line_at text k < length text → k ≤ line_at text k → (line_checks P names text k accepted).number ≡ 0 → Goes (suc k)
  unfolding text_over
  goes_more k g l m z = record { within = omega arith; lines = λ i h. go i (below_suc i k h) }
    where
      go : (i : ℕ) → (i < k) ⊎ (i ≡ k) → (T (text_over text i) → ⊥) × ((line_checks P names text i accepted).number ≡ 0)
      go i (inl h) = g.lines i h
      go i (inr e) = rw e ((λ x. omega (arith, leb→le (length text) (line_at text k) x)), z)

  -- ── no more lines than jobs ──

  -- how many jobs the first k lines name
  abbrev pub jobs_said : ℕ → ℕ
  jobs_said k = sum (λ j. cond (in_plan (plan_said P names text k) j) 1 0) P.count

  pub no_more_lines : (k : ℕ) → jobs_said k ≤ P.count
  no_more_lines k = omega (arith, sum_le (λ j. cond (in_plan (plan_said P names text k) j) 1 0) (λ j. 1) P.count (λ j l. one (in_plan (plan_said P names text k) j)), sum_of 1 P.count)
    where
      one : (b : Bool) → cond b 1 0 ≤ 1
      one true = omega arith
      one false = omega arith

  -- the job that a line names starts when it says, the others as before
  pub said_there : (k : ℕ) → plan_said P names text (suc k) (line_job P names text k) ≡ value_at text (line_at text k)
  unfolding plan_said
  said_there k = chosen (eqb (line_job P names text k) (line_job P names text k)) _ _ (eqb_of {m = line_job P names text k} refl)

  pub said_else : (k j : ℕ) → (j ≡ line_job P names text k → ⊥) → plan_said P names text (suc k) j ≡ plan_said P names text k j
  unfolding plan_said
  said_else k j n = unchosen (eqb j (line_job P names text k)) _ _ (λ h. n (eqb→eq j (line_job P names text k) h))

  pub more_said : (k : ℕ) → Good k → jobs_said k + 1 ≤ jobs_said (suc k)
  unfolding in_plan
  more_said k g =
      sum_more (λ j. cond (in_plan (plan_said P names text k) j) 1 0) (λ j. cond (in_plan (plan_said P names text (suc k)) j) 1 0) P.count (line_job P names text k) 1 (λ j l. go j (ℕ_discrete j (line_job P names text k))) g.known
      (omega (arith, cond_no (in_plan (plan_said P names text k) (line_job P names text k)) 1 0 g.fresh, cond_yes (in_plan (plan_said P names text (suc k)) (line_job P names text k)) 1 0 now_in))
    where
      now_in : T (in_plan (plan_said P names text (suc k)) (line_job P names text k))
      now_in = not_eqb (plan_said P names text (suc k) (line_job P names text k)) 65535 (λ e. omega (arith, said_there k, g.early))

      go : (j : ℕ) → Dec (j ≡ line_job P names text k) → cond (in_plan (plan_said P names text k) j) 1 0 ≤ cond (in_plan (plan_said P names text (suc k)) j) 1 0
      go j (yes e) = rw e (omega (arith, cond_no (in_plan (plan_said P names text k) (line_job P names text k)) 1 0 g.fresh))
      go j (no n) = rw (said_else k j n) (omega arith)

  -- checks 23 to 26 of a line are a list of checks
  pub line_checks_lem : (k : ℕ) → Checks (line_checks P names text k)
  unfolding line_checks
  line_checks_lem k =
      then_checks (if_checks (formless text k) 23 k (omega arith))
      (then_checks (if_checks (eqb (line_job P names text k) P.count) 24 k (omega arith))
      (then_checks (if_checks (in_plan (plan_said P names text k) (line_job P names text k)) 25 k (omega arith))
      (if_checks (not (eqb (value_at text (duration_at text (line_at text k))) (P.duration (line_job P names text k)))) 26 k (omega arith))))

  -- so no refusal of a text has a second number
  pub text_second : Second (text_checks P names text accepted)
  unfolding text_checks
  text_second = go (text_over text (lines_read P names text)) (lines_read P names text)
    where
      go : (b : Bool) (k : ℕ) → Second (cond b accepted (line_checks P names text k accepted))
      go true k = λ z. refl
      go false k = seconds (line_checks P names text k) (line_checks_lem k) accepted (λ z. refl)
