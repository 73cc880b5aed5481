-- The plan that is read is what the lines say, in whatever order they stand.
-- Assumes nothing.
use mathlib.Core.Path.{◌≡◌, refl, sym, ap, ◌∙◌}
use mathlib.Core.Logic.{◌⊎◌, inl, inr}
use mathlib.Core.Bool.{not, ◌||◌}
use mathlib.Core.List.{List}
use Prim.Native.Nat.{ℕ, zero, suc, ◌≤◌, ◌<◌}
use native.Mathlib.Omega.{arith}
use lib.Dec.{T, eqb, eqb→eq}
use lib.ListN.{length}
use Rattle.facts.specs.Least.{any}
use Rattle.facts.proofs.Bools.{T?, below_suc, not_eqb, eqb_of, certain, or_r}
use Rattle.facts.proofs.Least.{lowest, any_of, any_at}
use Rattle.refusals.specs.Refusals.{accepted}
use Rattle.rules.specs.Table.{Problem}
use Rattle.rules.specs.Plans.{in_plan}
use Rattle.plantext.specs.Form.{value_at}
use Rattle.plantext.specs.Reading.{line_at, line_job, plan_said, line_checks, text_over, lines_read}
use Rattle.plantext.specs.Told.{SaidToo}
use Rattle.plantext.proofs.Lines.{Good, good_line, said_there, said_else}

module _ (P : Problem) (names text : List ℕ) where
  -- every line that is read is good
  pub read_good : (k : ℕ) → k < lines_read P names text → Good P names text k
  unfolding lines_read
  read_good k l = good_line P names text k (eqb→eq (line_checks P names text k accepted).number 0 (certain (eqb (line_checks P names text k accepted).number 0)
      (λ h. (lowest (λ i. text_over text i || not (eqb (line_checks P names text i accepted).number 0)) (length text)).first k l (or_r (text_over text k) _ h))))

  -- no later line names its job again
  kept : (k m : ℕ) → k < m → m ≤ lines_read P names text → plan_said P names text m (line_job P names text k) ≡ value_at text (line_at text k)
  unfolding in_plan
  kept k zero l n = absurd (omega arith)
  kept k (suc m) l n = go (below_suc k m l) (λ h. kept k m h (omega arith)) (read_good m (omega arith))
    where
      go : (k < m) ⊎ (k ≡ m) → (k < m → plan_said P names text m (line_job P names text k) ≡ value_at text (line_at text k)) → Good P names text m
          → plan_said P names text (suc m) (line_job P names text k) ≡ value_at text (line_at text k)
      go (inr e) f g = rw e (said_there P names text m)
      go (inl h) f g =
          said_else P names text m (line_job P names text k)
          (λ e. g.fresh (not_eqb (plan_said P names text m (line_job P names text m)) 65535 (λ z. omega (arith, f h, ap (plan_said P names text m) e, (read_good k (omega arith)).early))))
          ∙ f h

  -- the job of each line starts when the line says
  pub line_says : (k : ℕ) → k < lines_read P names text → plan_said P names text (lines_read P names text) (line_job P names text k) ≡ value_at text (line_at text k)
  line_says k l = kept k (lines_read P names text) l (omega arith)

  -- a job that no line names is out
  pub no_line : (j m : ℕ) → ((k : ℕ) → k < m → line_job P names text k ≡ j → ⊥) → plan_said P names text m j ≡ 65535
  unfolding plan_said
  no_line j zero n = refl
  no_line j (suc m) n = said_else P names text m j (λ e. n m (omega arith) (sym e)) ∙ no_line j m (λ k l. n k (omega arith))

-- the law: texts with the same lines, in any order and with any zeros, say one plan
pub any_order : (P : Problem) (names one other : List ℕ) → SaidToo P names one other → SaidToo P names other one → (j : ℕ) → plan_said P names one (lines_read P names one) j ≡ plan_said P names other (lines_read P names other) j
any_order P names one other f g j = go (T? (any (λ k. eqb (line_job P names one k) j) (lines_read P names one)))
  where
    go : T (any (λ k. eqb (line_job P names one k) j) (lines_read P names one)) ⊎ (T (any (λ k. eqb (line_job P names one k) j) (lines_read P names one)) → ⊥)
        → plan_said P names one (lines_read P names one) j ≡ plan_said P names other (lines_read P names other) j
    go (inl x) =
        let a = any_at (λ k. eqb (line_job P names one k) j) (lines_read P names one) x in
        let e = eqb→eq (line_job P names one a.0) j a.2 in
        let b = f a.0 a.1 in
        ap (plan_said P names one (lines_read P names one)) (sym e) ∙ line_says P names one a.0 a.1 ∙ sym b.3 ∙ sym (line_says P names other b.0 b.1) ∙ ap (plan_said P names other (lines_read P names other)) (b.2 ∙ e)
    go (inr n) =
        no_line P names one j (lines_read P names one) (λ k l e. n (any_of (λ i. eqb (line_job P names one i) j) (lines_read P names one) k l (eqb_of e)))
        ∙ sym (no_line P names other j (lines_read P names other) (λ k l e. let b = g k l in n (any_of (λ i. eqb (line_job P names one i) j) (lines_read P names one) b.0 b.1 (eqb_of (b.2 ∙ e)))))
