-- From the steps to the promises of both calls.
-- Assumes nothing.
use mathlib.Core.Path.{◌≡◌, sym, ap, ◌∙◌, subst}
use mathlib.Core.Bool.{Bool, false, ◌&&◌, cond}
use mathlib.Core.List.{List, []}
use Prim.Native.Nat.{ℕ, ◌≤◌, ◌<◌}
use native.Mathlib.Omega.{arith}
use lib.Dec.{T, eqb, ltb, ltb→lt, lt→ltb, eqb→eq}
use lib.ListN.{length}
use Rattle.facts.specs.Facts.{has}
use Rattle.facts.specs.Least.{least, any}
use Rattle.facts.proofs.Bools.{same, eqb_of, chosen, unchosen}
use Rattle.facts.proofs.Least.{least_same, found_any, found_none}
use Rattle.refusals.specs.Refusals.{Verdict, accepted, refused}
use Rattle.refusals.proofs.Refused.{went_on}
use Rattle.rules.specs.declared.Hindrance.TheVariants.{Never, TooDear, Neither}
use Rattle.rules.specs.Table.{Problem}
use Rattle.rules.specs.Estimates.{cost, Estimates}
use Rattle.rules.specs.Reasons.{Chain, Explained, unsettled, outside, explained, never_reached, above_bound, hindrance_of}
use Rattle.rules.proofs.Early.{cost_cap}
use Rattle.tables.specs.declared.Loaded.{Loaded}
use Rattle.tables.specs.declared.Ask.{Ask}
use Rattle.tables.specs.declared.Answer.{Answer}
use Rattle.tables.specs.Tables.{problem, answer_of, written}
use Rattle.tables.specs.Steps.{Judges, Cleared}
use Rattle.tables.proofs.Laws.{said, numbered, changed_new, changed_old}
use Rattle.entries.specs.Entries.{entry}
use Rattle.times.specs.Times.{wanted}
use Rattle.settle.specs.Settle.{settling_checks}
use Rattle.settle.specs.Steps.{SettledAs, Refuses}
use Rattle.settle.proofs.Faults.{all_checks}
use Rattle.settle.proofs.Starts.{ready}
use Rattle.estimates.specs.Rounds.{Costs}
use Rattle.reasons.specs.declared.Question.{Question}
use Rattle.reasons.specs.declared.Reason.{Reason}
use Rattle.reasons.specs.Reasons.{WhyStart, reason_of, no_reason, reason_verdict, WhyNoPlan}
use Rattle.reasons.specs.Steps.{Explainable}

-- ── why a job starts when it does ──

module _ (l : Loaded) (q : Question) (bytes old : List ℕ) where
  abbrev C : Verdict → Verdict
  C = settling_checks l q.ask bytes (length old)

  abbrev Answers : Verdict → List ℕ → Type 0
  Answers v m = Explained (problem l q.ask) (wanted l q.ask bytes) q.job v m

  -- settling refuses
  pub not_settled : (a : Answer) → Refuses l q.ask bytes (length old) a → WhyStart l q bytes old old a
  not_settled a s = record {
    v = s.v;
    chain = [];
    behind = λ c. (let f = s.behind c in subst (λ (v : Verdict). Answers v []) (sym f.0) (unsettled f.1));
    says = s.says;
    leaves = sym (changed_old (C s.v) (written [] old) old (λ z. (let m : 0 < a.number = s.above in omega (arith, numbered 0 0 s.says, z))));
  }

  -- settling gives starts
  module _ (z : List ℕ) (s : SettledAs l q.ask bytes (length old) z) where
    on : (v : Verdict) → C v ≡ v
    on = went_on C (all_checks l q.ask bytes (length old)) (ap (λ (v : Verdict). v.number) s.checks)

    pub explainable : T (has q.ask.set q.job) → Explainable l q.ask bytes (entry z) q.job
    explainable t = let w = ready l q.ask bytes (length old) z s in record { ready = w.ready; order = w.clear.order; settled = s.settled; member = t }

    pub lent : q.ask.jobs ≤ length old
    lent = (ready l q.ask bytes (length old) z s).wide

    -- the job is outside the set
    pub not_in_set : {a : Answer} → (T (has q.ask.set q.job) → ⊥) → a ≡ answer_of (refused 27 q.job) 0 0 → WhyStart l q bytes old old a
    not_in_set n d = record {
      v = refused 27 q.job;
      chain = [];
      behind = λ c. outside s.settled n;
      says = d ∙ said 0 0 (on (refused 27 q.job));
      leaves = sym (changed_old (C (refused 27 q.job)) (written [] old) old (λ y. (let e : 27 ≡ 0 = ap (λ (v : Verdict). v.number) (sym (on (refused 27 q.job))) ∙ y in omega arith)));
    }

    -- the chain is given
    pub chain_given : {a : Answer} {new : List ℕ} (m : List ℕ) → T (has q.ask.set q.job) → Chain (problem l q.ask) (wanted l q.ask bytes) (entry z) q.job m
        → a ≡ answer_of accepted (length m) 0 → new ≡ written m old → WhyStart l q bytes old new a
    chain_given m t c d e = record {
      v = accepted;
      chain = m;
      behind = λ _. explained s.settled t c;
      says = d ∙ said (length m) 0 (on accepted);
      leaves = e ∙ sym (changed_new (C accepted) (written m old) old (ap (λ (v : Verdict). v.number) (on accepted)));
    }

-- ── why there is no plan ──

-- what costs 65,535 is what costs more than 65,534
pub never_above : (P : Problem) (est : ℕ → ℕ) (p : ℕ) → (has P.goals p && ltb 65534 (cost P est p)) ≡ never_reached P est p
never_above P est p = ap (λ (b : Bool). has P.goals p && b)
    (same (ltb 65534 (cost P est p)) (eqb (cost P est p) 65535) (λ x. (let e : cost P est p ≡ 65535 = omega (arith, ltb→lt 65534 (cost P est p) x, cost_cap P est p) in eqb_of e)) (λ x. lt→ltb 65534 (cost P est p) (omega (arith, eqb→eq (cost P est p) 65535 x))))

module _ (P : Problem) (est : ℕ → ℕ) (bound : ℕ) (costs : List ℕ) (k : Costs (cost P est) costs 64) where
  -- the goals above a limit, by the costs worked out
  abbrev pub over : ℕ → ℕ → Bool
  over limit p = has P.goals p && ltb limit (entry costs p)

  by_costs : (limit p : ℕ) → p < 64 → over limit p ≡ (has P.goals p && ltb limit (cost P est p))
  by_costs limit p m = ap (λ (c : ℕ). has P.goals p && ltb limit c) (k p m)

  module _ {n : ℕ} (e : n ≡ least (over 65534) 64) where
    is_never : n ≡ least (never_reached P est) 64
    is_never = e ∙ least_same (over 65534) (never_reached P est) 64 (λ p m. by_costs 65534 p m ∙ never_above P est p)

    pub by_never : n < 64 → Never n ≡ hindrance_of P est bound
    unfolding hindrance_of
    by_never h = ap Never is_never ∙ sym (chosen (any (never_reached P est) 64) _ _ (found_any (never_reached P est) is_never h))

    module _ (out : 64 ≤ n) {d : ℕ} (f : d ≡ least (over bound) 64) where
      is_dear : d ≡ least (above_bound P est bound) 64
      is_dear = f ∙ least_same (over bound) (above_bound P est bound) 64 (λ p m. by_costs bound p m)

      rest : cond (any (above_bound P est bound) 64) (TooDear (least (above_bound P est bound) 64)) Neither ≡ hindrance_of P est bound
      unfolding hindrance_of
      rest = sym (unchosen (any (never_reached P est) 64) _ _ (found_none (never_reached P est) is_never out))

      pub by_dear : d < 64 → TooDear d ≡ hindrance_of P est bound
      by_dear h = ap TooDear is_dear ∙ sym (chosen (any (above_bound P est bound) 64) _ _ (found_any (above_bound P est bound) is_dear h)) ∙ rest

      pub by_neither : 64 ≤ d → Neither ≡ hindrance_of P est bound
      by_neither h = sym (unchosen (any (above_bound P est bound) 64) _ _ (found_none (above_bound P est bound) is_dear h)) ∙ rest

-- the answer of checks 3 to 9 and 20, and the reason behind them
module _ (l : Loaded) (q : Ask) {f : Answer} (j : Judges (reason_verdict l q) (Cleared false q.bound l q) f) {r : Reason} where
  pub not_checked : (f.number ≡ 0 → ⊥) → r ≡ no_reason f → WhyNoPlan l q r
  not_checked n d = record {
    est = λ i. 0;
    tells = λ c. absurd (n (numbered 0 0 j.says ∙ ap (λ (v : Verdict). v.number) c));
    refuses = λ _. d ∙ ap (λ (a : Answer). no_reason a) j.says;
  }

  pub checked : f.number ≡ 0 → (est : ℕ → ℕ) → Estimates (problem l q) est → r ≡ reason_of (hindrance_of (problem l q) est q.bound) → WhyNoPlan l q r
  checked z est x d = record { est = est; tells = λ _. (x, d); refuses = λ n. absurd (n (sym (numbered 0 0 j.says) ∙ z)) }
