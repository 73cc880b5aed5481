-- Request Twelve of the call: for all overruns the plan has one run, and where none is over k it is finished by the number returned.
-- Assumes nothing.
use mathlib.Core.Path.{◌≡◌, sym, ap, subst, ◌∙◌}
use mathlib.Core.Bool.{false, cond}
use mathlib.Core.List.{List}
use Prim.Native.Nat.{ℕ, ◌+◌, ◌*◌, ◌/◌, ◌≤◌, ◌<◌}
use native.Mathlib.Omega.{arith}
use native.Mathlib.Nat.{mul-le-mul}
use lib.Dec.{ltb}
use lib.ListN.{length}
use Rattle.facts.proofs.Bools.{at_most}
use Rattle.refusals.specs.Refusals.{Verdict, accepted}
use Rattle.refusals.proofs.Refused.{both}
use Rattle.rules.specs.Table.{Problem}
use Rattle.rules.specs.Plans.{Plan, starts, in_plan, In, finish, Valid}
use Rattle.rules.specs.Pairs.{pair_bytes}
use Rattle.rules.specs.Lateness.{IsGreatest, binding_pairs, BindingChain, LatestFinish, overrun_check}
use Rattle.rules.specs.Runs.{Run, RunsBy}
use Rattle.rules.proofs.Late.{Valued, greatest_is, finish_only, finish_of, latest_fits, no_later, runs_by, overrun, run_valid, BoundAlike, same_sum}
use Rattle.rules.proofs.Settle.{settled_alike}
use Rattle.tables.specs.declared.Loaded.{Loaded}
use Rattle.tables.specs.declared.Answer.{Answer}
use Rattle.tables.specs.Tables.{problem, answer_of}
use Rattle.tables.proofs.Laws.{accepts, numbered, changed_new}
use Rattle.verdict.specs.Steps.{Sound}
use Rattle.verdict.proofs.Accepted.{offered_checks, sound}
use Rattle.bindings.specs.Bindings.{Pairs, pair_verdict}
use Rattle.facts.proofs.Passing.{Passing}
use Rattle.settle.specs.Settle.{Settling}
use Rattle.settle.proofs.Starts.{are_settled}
use Rattle.lateness.specs.declared.Overruns.{Overruns}
use Rattle.lateness.specs.Lateness.{late_verdict, HowLate}
use Rattle.lateness.specs.Steps.{asked_of, Listing}
use Rattle.lateness.proofs.Laws.{as_bound, listing_by}
use Rattle.lateness.proofs.Calls.{within_96, in_form_lem}
use Rattle.lateness.proofs.Only.{late_checks, in_order}

-- of an answer that is no refusal
module _ (l : Loaded) (o : Overruns) (s : List ℕ) (r : Answer) (f : HowLate l o s r) (z : r.number ≡ 0) where
  abbrev P : Problem
  P = problem l o.ask

  fine : late_verdict l o s ≡ accepted
  fine = accepts (late_checks l o s) (sym (numbered f.t 0 f.says) ∙ z)

  k : Sound false l o.ask s
  k = in_order l o s fine

  -- the value is the sum
  pub is_latest : LatestFinish P o.ask.bound (starts s) o.most r.value
  is_latest =
      let e : f.t ≡ r.value = sym (ap (λ (a : Answer). a.value) (f.says ∙ ap (λ (v : Verdict). answer_of v f.t 0) fine)) in
      subst (LatestFinish P o.ask.bound (starts s) o.most) e (f.behind fine)

  -- all of it is shown of the value
  pub value_runs : RunsBy P (starts s) o.most r.value
  value_runs = runs_by P k.clear.order o.ask.bound (starts s) o.most r.value is_latest

  -- no value is over the bound by more than k a job
  pub value_fits : r.value ≤ o.ask.bound + o.most * o.ask.jobs
  value_fits = latest_fits P k.clear.order o.ask.bound (starts s) o.most r.value is_latest

  -- with k = 0 it is no later than the plan's own finish
  pub value_no_later : o.most ≡ 0 → (m : ℕ) → ((j : ℕ) → In P (starts s) j → finish P (starts s) j ≤ m) → r.value ≤ m
  value_no_later e m own = no_later P k.clear.order o.ask.bound (starts s) k.valid r.value m (subst (λ (n : ℕ). LatestFinish P o.ask.bound (starts s) n r.value) e is_latest) own

  small : r.value < 65535
  small =
      let m : o.most ≤ 96 = within_96 o.most (both (overrun_check o.most accepted) (offered_checks false l o.ask s) fine).1 in
      omega (arith, value_fits, k.clear.within, mul-le-mul m k.clear.few)

  -- the run is a valid plan for the jobs as long as they took: conditions hold, and by the value the goals
  pub valid_run : (over : ℕ → ℕ) → ((j : ℕ) → In P (starts s) j → over j ≤ o.most) → (z : Plan) → Run P (starts s) over z
      → Valid (overrun P over) r.value (λ j. cond (in_plan (starts s) j) (z j) 65535)
  valid_run over most z g = run_valid P k.clear.order o.ask.bound (starts s) k.valid o.most r.value small is_latest over most z g

  -- ── by the calls for binding pairs and for settling ──

  -- where `binding_pairs` has listed the pairs of the plan, and `settle` has filled starts for them and the plan's jobs, the settled finish is the last of those
  module _ {old₁ new₁ old₂ new₂ : List ℕ} {r₁ r₂ : Answer} (set : ℕ) (p : Pairs l o.ask s old₁ new₁ r₁) (listed : r₁.number ≡ 0) (w : Passing (in_plan (starts s)) o.ask.jobs set)
      (x : Settling l (asked_of o.ask o.ask.atoms set r₁.value) new₁ old₂ new₂ r₂) (done : r₂.number ≡ 0) where
    whole : pair_verdict l o.ask s old₁ ≡ accepted
    whole = accepts (offered_checks (ltb (length old₁) 552) l o.ask s) (sym (numbered (length (pair_bytes P (starts s)) / 2) 0 p.says) ∙ listed)

    lists : Listing l o.ask s new₁ r₁.value set
    lists = listing_by l o.ask s old₁ new₁ r₁.value set (in_form_lem k)
        (at_most (length old₁) 552 (sound (ltb (length old₁) 552) l o.ask s whole).room)
        (p.list ∙ changed_new (pair_verdict l o.ask s old₁) _ old₁ (ap (λ (v : Verdict). v.number) whole))
        (ap (λ (a : Answer). a.value) (p.says ∙ ap (λ (v : Verdict). answer_of v (length (pair_bytes P (starts s)) / 2) 0) whole)) w

    pub by_settle : (last jobs : ℕ) × IsGreatest (Valued (in_plan (starts s)) (finish P (starts new₂)) o.ask.jobs) last × IsGreatest (λ n. (j : ℕ) × BindingChain P (starts s) n j) jobs × (r.value ≡ last + o.most * jobs)
    by_settle =
        let f = settled_alike _ _ _ _ (as_bound l o.ask s new₁ r₁.value set (in_form_lem k) lists) (starts new₂) (are_settled l (asked_of o.ask o.ask.atoms set r₁.value) new₁ x done) in
        let e = finish_only P (binding_pairs P o.ask.bound (starts s)) _ is_latest.last (finish_of P (binding_pairs P o.ask.bound (starts s)) (starts new₂) f) is_latest.settled in (
          is_latest.last,
          is_latest.jobs,
          subst (IsGreatest (Valued (in_plan (starts s)) (finish P (starts new₂)) o.ask.jobs)) e (greatest_is (in_plan (starts s)) (finish P (starts new₂)) o.ask.jobs),
          is_latest.longest,
          is_latest.sum,
        )

-- two plans with the same jobs in and the same binding pairs get the same value, whatever their starts
pub same_value : (l : Loaded) (o : Overruns) (s s' : List ℕ) (r r' : Answer) (f : HowLate l o s r) (g : HowLate l o s' r') → r.number ≡ 0 → r'.number ≡ 0
    → BoundAlike (problem l o.ask) (starts s) (starts s') → r.value ≡ r'.value
same_value l o s s' r r' f g z z' h =
    same_sum (problem l o.ask) (k l o s r f z).clear.order o.ask.bound o.ask.bound (starts s) (starts s') h o.most r.value r'.value (is_latest l o s r f z) (is_latest l o s' r' g z')
