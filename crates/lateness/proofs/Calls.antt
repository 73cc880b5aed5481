-- From the verdict on the plan and the latest finish to the promise of the call.
-- Assumes nothing.
use mathlib.Core.Path.{◌≡◌, sym, ap, ◌∙◌}
use mathlib.Core.Bool.{false}
use mathlib.Core.List.{List}
use Prim.Native.Nat.{ℕ, ◌≤◌, ◌<◌}
use native.Mathlib.Omega.{arith}
use lib.Dec.{ltb, ltb→lt, lt→ltb}
use Rattle.facts.proofs.Bools.{at_most}
use Rattle.refusals.specs.Refusals.{Verdict, accepted, refused}
use Rattle.refusals.proofs.Refused.{if_pass, if_hit, if_zero}
use Rattle.rules.specs.Plans.{starts}
use Rattle.rules.specs.Lateness.{LatestFinish, overrun_check}
use Rattle.tables.specs.declared.Loaded.{Loaded}
use Rattle.tables.specs.declared.Ask.{Ask}
use Rattle.tables.specs.declared.Answer.{Answer}
use Rattle.tables.specs.Tables.{problem, answer_of}
use Rattle.tables.specs.Steps.{Judges}
use Rattle.tables.proofs.Laws.{said, numbered}
use Rattle.tables.proofs.Calls.{stops_there, goes_behind}
use Rattle.verdict.specs.Offered.{offered}
use Rattle.verdict.specs.Steps.{Sound}
use Rattle.verdict.proofs.Accepted.{offered_checks}
use Rattle.lateness.specs.declared.Overruns.{Overruns}
use Rattle.lateness.specs.Lateness.{late_verdict, HowLate}
use Rattle.lateness.specs.Steps.{Runnable}

-- check 34 by the number
pub overrun_over : (k : ℕ) → 96 < k → overrun_check k accepted ≡ refused 34 0
unfolding overrun_check
overrun_over k h = if_hit (ltb 96 k) 34 0 accepted (lt→ltb 96 k h)

pub overrun_within : (k : ℕ) → k ≤ 96 → overrun_check k accepted ≡ accepted
unfolding overrun_check
overrun_within k h = if_pass (ltb 96 k) 34 0 accepted (λ x. omega (arith, ltb→lt 96 k x))

pub within_96 : (k : ℕ) → overrun_check k accepted ≡ accepted → k ≤ 96
unfolding overrun_check
within_96 k e = at_most 96 k (if_zero (ltb 96 k) 34 0 accepted (omega arith) e).0

-- what is so of an accepted plan, as the steps want it
pub in_form_lem : {l : Loaded} {q : Ask} {s : List ℕ} → Sound false l q s → Runnable l q s
in_form_lem k = record { given = (k.clear.few, k.given); order = k.clear.order; within = k.clear.within; valid = k.valid }

module _ (l : Loaded) (o : Overruns) (s : List ℕ) {f : Answer} (judged : Judges (offered false l o.ask s accepted) (Sound false l o.ask s) f) where
  -- the plan is refused
  pub refused_plan : (f.number ≡ 0 → ⊥) → HowLate l o s f
  refused_plan n =
      let e : f ≡ answer_of (late_verdict l o s) 0 0 = stops_there (offered_checks false l o.ask s) judged.says n (overrun_check o.most accepted) in
      record { t = 0; behind = λ c. absurd (n (numbered 0 0 e ∙ ap (λ (v : Verdict). v.number) c)); says = e }

  module _ (z : f.number ≡ 0) where
    -- what comes behind the checks of the plan
    on : late_verdict l o s ≡ overrun_check o.most accepted
    on = goes_behind (offered_checks false l o.ask s) judged.says z (overrun_check o.most accepted)

    -- each job may run over by more than 96
    pub refused_overrun : 96 < o.most → {a : Answer} → a ≡ answer_of (refused 34 0) 0 0 → HowLate l o s a
    refused_overrun h e =
        let v : late_verdict l o s ≡ refused 34 0 = on ∙ overrun_over o.most h in
        record {
          t = 0;
          behind = λ c. (let x : ◌≡◌ {A = ℕ} 34 0 = ap (λ (w : Verdict). w.number) (sym v ∙ c) in absurd (omega arith));
          says = e ∙ said 0 0 v;
        }

    pub runnable : Runnable l o.ask s
    runnable = in_form_lem (judged.order z)

    -- the sum is given
    pub finish_given : o.most ≤ 96 → {t : ℕ} {a : Answer} → LatestFinish (problem l o.ask) o.ask.bound (starts s) o.most t → a ≡ answer_of accepted t 0 → HowLate l o s a
    finish_given h {t} f e = record { t = t; behind = λ _. f; says = e ∙ said t 0 (on ∙ overrun_within o.most h) }
