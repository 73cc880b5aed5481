-- What is shown is true: the chain in the lent bytes is that of the settled starts, each job of the set has one, and where a goal is named there is no plan.
-- Assumes nothing.
use mathlib.Core.Path.{◌≡◌, refl, sym, ap, ◌∙◌}
use mathlib.Core.Bool.{Bool, false, ◌||◌}
use mathlib.Core.List.{List}
use Prim.Native.Nat.{ℕ, ◌/◌, ◌≤◌, ◌<◌}
use native.Mathlib.Omega.{arith}
use native.Mathlib.Decide.{ℕ_discrete}
use lib.Dec.{T, ltb, ltb→lt}
use lib.ListN.{length, get_or}
use Rattle.facts.specs.Facts.{has}
use Rattle.refusals.specs.Refusals.{Verdict, accepted}
use Rattle.facts.proofs.Bools.{same}
use Rattle.refusals.proofs.Refused.{went_on}
use Rattle.rules.specs.declared.Hindrance.{Hindrance}
use Rattle.rules.specs.declared.Hindrance.TheVariants.{Never, TooDear, Neither}
use Rattle.rules.specs.Plans.{Plan, starts, Valid}
use Rattle.rules.specs.Order.{NoPlan}
use Rattle.rules.specs.Settling.{Settled, settle_checks}
use Rattle.rules.specs.Reasons.{Chain, Explained, unsettled, outside, explained, hindrance_of}
use Rattle.rules.proofs.Settle.{settled_only}
use Rattle.rules.proofs.Chained.{PlaceByPlace, chain_same, chain_places, chain_count}
use Rattle.rules.proofs.Hindered.{Meant, hindrance_true}
use Rattle.tables.specs.declared.Loaded.{Loaded}
use Rattle.tables.specs.declared.Ask.{Ask}
use Rattle.tables.specs.declared.Answer.{Answer}
use Rattle.tables.specs.Tables.{problem, answer_of, written, call_checks}
use Rattle.tables.proofs.Laws.{accepts, changed_new}
use Rattle.tables.proofs.Lent.{filled_at, filled_rest}
use Rattle.tables.proofs.Calls.{call_checks_lem, cleared}
use Rattle.times.specs.Times.{pair_first, pair_second, wanted}
use Rattle.settle.specs.Settle.{settling_checks, Settling}
use Rattle.settle.specs.Steps.{Settleable}
use Rattle.settle.proofs.Faults.{all_checks, settleable}
use Rattle.settle.proofs.Starts.{checks_pass, are_settled}
use Rattle.reasons.specs.declared.Question.{Question}
use Rattle.reasons.specs.declared.Reason.{Reason}
use Rattle.reasons.specs.Reasons.{WhyStart, reason_of, reason_verdict, WhyNoPlan}

-- ── the chain ──

module _ (l : Loaded) (q : Question) (bytes old new : List ℕ) (r : Answer) (f : WhyStart l q bytes old new r) where
  abbrev C : Verdict → Verdict
  C = settling_checks l q.ask bytes (length old)

  -- what a job of the set is given, by any settled starts z: the bytes that the value counts are the chain, place by place, and those behind are as they were
  pub record Gives (z : Plan) : Type 0 where
    pub chain : List ℕ
    pub value : r.value ≡ length chain
    pub some : (1 ≤ r.value) × (r.value ≤ q.ask.jobs)
    pub places : PlaceByPlace (problem l q.ask) (wanted l q.ask bytes) z q.job chain
    pub bytes_are : (i : ℕ) → i < r.value → get_or new i 0 ≡ get_or chain i 0
    pub rest : (i : ℕ) → r.value ≤ i → get_or new i 0 ≡ get_or old i 0

  module _ (c : C accepted ≡ accepted) (z : Plan) (s : Settled (problem l q.ask) (wanted l q.ask bytes) z) where
    on : (v : Verdict) → C v ≡ v
    on = went_on C (all_checks l q.ask bytes (length old)) (ap (λ (v : Verdict). v.number) c)

    ok : Settleable l q.ask bytes (length old)
    ok = settleable l q.ask bytes (length old) c

    -- every job of the set has a chain, and it is given
    module _ (t : T (has q.ask.set q.job)) where
      there : q.job < q.ask.jobs
      there = ok.ready.named q.job t

      is_chain : (v : Verdict) (m : List ℕ) → Explained (problem l q.ask) (wanted l q.ask bytes) q.job v m → (v ≡ accepted) × Chain (problem l q.ask) (wanted l q.ask bytes) z q.job m
      is_chain v m (unsettled n) = absurd (n z s.keeps)
      is_chain v m (outside y n) = absurd (n t)
      is_chain v m (explained {z = y} g u d) = (refl, chain_same (problem l q.ask) (wanted l q.ask bytes) y z (settled_only (problem l q.ask) (wanted l q.ask bytes) y z g s) there d)

      abbrev told : (f.v ≡ accepted) × Chain (problem l q.ask) (wanted l q.ask bytes) z q.job f.chain
      told = is_chain f.v f.chain (f.behind c)

      answer_is : r ≡ answer_of accepted (length f.chain) 0
      answer_is = f.says ∙ ap (λ (v : Verdict). answer_of v (length f.chain) 0) (on f.v ∙ told.0)

      pub is_given : (r.number ≡ 0) × Gives z
      is_given = (
        ap (λ (a : Answer). a.number) answer_is,
        record {
          chain = f.chain;
          value = long;
          some = (omega (arith, long, p.some), omega (arith, long, most));
          places = p;
          bytes_are = λ i m. ap (λ (x : List ℕ). get_or x i 0) table ∙ filled_at (λ i. get_or f.chain i 0) (length f.chain) old i 0 (omega (arith, long)) (omega (arith, long, most, ok.wide));
          rest = λ i m. ap (λ (x : List ℕ). get_or x i 0) table ∙ filled_rest (λ i. get_or f.chain i 0) (length f.chain) old i 0 (omega (arith, long));
        },
      )
        where
          long : r.value ≡ length f.chain
          long = ap (λ (a : Answer). a.value) answer_is

          p : PlaceByPlace (problem l q.ask) (wanted l q.ask bytes) z q.job f.chain
          p = chain_places (problem l q.ask) (wanted l q.ask bytes) z told.1

          most : length f.chain ≤ q.ask.jobs
          most = chain_count (problem l q.ask) (wanted l q.ask bytes) z ok.clear.order told.1 there

          table : new ≡ written f.chain old
          table = f.leaves ∙ changed_new (C f.v) (written f.chain old) old (ap (λ (v : Verdict). v.number) (on f.v ∙ told.0))

  -- where `settle` with the same numbers and pairs fills starts, those are the ones explained
  module _ {old₂ new₂ : List ℕ} {r₂ : Answer} (x : Settling l q.ask bytes old₂ new₂ r₂) (done : r₂.number ≡ 0) (lent : q.ask.jobs ≤ length old) where
    room₂ : q.ask.jobs ≤ length old₂
    room₂ = (settleable l q.ask bytes (length old₂) (checks_pass l q.ask bytes x done)).wide

    -- room enough in both calls: their checks say the same
    same_checks : C accepted ≡ accepted
    same_checks = ap (λ (b : Bool). call_checks (b || ltb (length bytes / 2) q.ask.pairs) q.ask.bound l q.ask (settle_checks (problem l q.ask) q.ask.set (pair_first bytes) (pair_second bytes) q.ask.pairs accepted))
        (same (ltb (length old) q.ask.jobs) (ltb (length old₂) q.ask.jobs) (λ t. absurd (omega (arith, ltb→lt (length old) q.ask.jobs t))) (λ t. absurd (omega (arith, room₂, ltb→lt (length old₂) q.ask.jobs t)))) ∙ checks_pass l q.ask bytes x done

    pub by_settle : T (has q.ask.set q.job) → (r.number ≡ 0) × Gives (starts new₂)
    by_settle t = is_given same_checks (starts new₂) (are_settled l q.ask bytes x done) t

-- ── the reason ──

module _ (l : Loaded) (q : Ask) (r : Reason) (f : WhyNoPlan l q r) (z : r.answer.number ≡ 0) where
  checks : reason_verdict l q ≡ accepted
  checks = go (ℕ_discrete (reason_verdict l q).number 0)
    where
      go : Dec ((reason_verdict l q).number ≡ 0) → reason_verdict l q ≡ accepted
      go (yes h) = accepts (call_checks_lem false q.bound l q) h
      go (no n) = absurd (n (ap (λ (x : Reason). x.answer.number) (sym (f.refuses n)) ∙ z))

  -- what is shown is so of the table's goals and costs
  pub reason_true : (h : Hindrance) × (r ≡ reason_of h) × Meant (problem l q) f.est q.bound h
  reason_true = let t = f.tells checks in
      (hindrance_of (problem l q) f.est q.bound, t.1, hindrance_true (problem l q) (cleared false q.bound l q checks).order f.est t.0 q.bound)

  -- where there is a plan, neither is said
  pub plan_neither : (s : Plan) → Valid (problem l q) q.bound s → r ≡ reason_of Neither
  plan_neither s v = go reason_true
    where
      go : (h : Hindrance) × (r ≡ reason_of h) × Meant (problem l q) f.est q.bound h → r ≡ reason_of Neither
      go (Never p, e, m) = absurd (m.3 q.bound (omega (arith, (cleared false q.bound l q checks).within)) s v)
      go (TooDear p, e, m) = absurd (m.3 q.bound (omega arith) s v)
      go (Neither, e, m) = e

  -- so where a goal is named, no plan is valid within the bound
  pub named_none : (r ≡ reason_of Neither → ⊥) → NoPlan (problem l q) q.bound
  named_none n s v = n (plan_neither s v)
