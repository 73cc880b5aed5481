-- The promises leave one result: the answer and all lent bytes, and the reason.
-- Assumes nothing.
use mathlib.Core.Path.{◌≡◌, sym, ap, ◌∙◌}
use mathlib.Core.Bool.{false}
use mathlib.Core.List.{List}
use Prim.Native.Nat.{ℕ}
use native.Mathlib.Decide.{ℕ_discrete}
use lib.ListN.{length}
use Rattle.refusals.specs.Refusals.{Verdict, accepted}
use Rattle.refusals.proofs.Refused.{stopped, went_on}
use Rattle.rules.proofs.Chained.{explained_only}
use Rattle.rules.proofs.Hindered.{hindrance_only}
use Rattle.tables.specs.declared.Loaded.{Loaded}
use Rattle.tables.specs.declared.Ask.{Ask}
use Rattle.tables.specs.declared.Answer.{Answer}
use Rattle.tables.specs.Tables.{problem, answer_of, changed, written}
use Rattle.tables.proofs.Laws.{accepts, answer_no, changed_old}
use Rattle.tables.proofs.Calls.{call_checks_lem, cleared}
use Rattle.times.specs.Times.{wanted}
use Rattle.settle.specs.Settle.{settling_checks}
use Rattle.settle.proofs.Faults.{all_checks, settleable}
use Rattle.reasons.specs.declared.Question.{Question}
use Rattle.reasons.specs.declared.Reason.{Reason}
use Rattle.reasons.specs.Reasons.{WhyStart, reason_of, reason_verdict, WhyNoPlan}

-- ── why a job starts when it does ──

module _ (l : Loaded) (q : Question) (bytes old new new' : List ℕ) (r r' : Answer) (f : WhyStart l q bytes old new r) (g : WhyStart l q bytes old new' r') where
  abbrev C : Verdict → Verdict
  C = settling_checks l q.ask bytes (length old)

  -- the same is said, and where it accepts with the same chain
  same_out : C f.v ≡ C g.v → ((C f.v).number ≡ 0 → f.chain ≡ g.chain) → (r ≡ r') × (new ≡ new')
  same_out e m = go (ℕ_discrete (C f.v).number 0)
    where
      said_as : (n : ℕ) → answer_of (C f.v) n 0 ≡ answer_of (C g.v) n 0
      said_as n = ap (λ (v : Verdict). answer_of v n 0) e

      left_as : (x : List ℕ) → changed (C f.v) (written x old) old ≡ changed (C g.v) (written x old) old
      left_as x = ap (λ (v : Verdict). changed v (written x old) old) e

      go : Dec ((C f.v).number ≡ 0) → (r ≡ r') × (new ≡ new')
      go (yes z) = (f.says ∙ ap (λ (x : List ℕ). answer_of (C f.v) (length x) 0) (m z) ∙ said_as (length g.chain) ∙ sym g.says, f.leaves ∙ ap (λ (x : List ℕ). changed (C f.v) (written x old) old) (m z) ∙ left_as g.chain ∙ sym g.leaves)
      go (no n) = (f.says ∙ answer_no (C f.v) (length f.chain) (length g.chain) 0 n ∙ said_as (length g.chain) ∙ sym g.says, f.leaves ∙ changed_old (C f.v) (written f.chain old) old n ∙ sym (changed_old (C f.v) (written g.chain old) old n) ∙ left_as g.chain ∙ sym g.leaves)

  pub why_start_only : (r ≡ r') × (new ≡ new')
  why_start_only = go (ℕ_discrete (C accepted).number 0)
    where
      go : Dec ((C accepted).number ≡ 0) → (r ≡ r') × (new ≡ new')
      go (no n) =
          let at = stopped C (all_checks l q.ask bytes (length old)) n in
          same_out (at f.v ∙ sym (at g.v)) (λ z. absurd (n (ap (λ (v : Verdict). v.number) (sym (at f.v)) ∙ z)))
      go (yes z) =
          let on = went_on C (all_checks l q.ask bytes (length old)) z in
          let c = accepts (all_checks l q.ask bytes (length old)) z in
          let o = explained_only (problem l q.ask) (wanted l q.ask bytes) q.job ((settleable l q.ask bytes (length old) c).ready.named q.job) (f.behind c) (g.behind c) in
          same_out (on f.v ∙ o.0 ∙ sym (on g.v)) (λ y. o.1 (ap (λ (v : Verdict). v.number) (sym (on f.v)) ∙ y))

-- ── why there is no plan ──

pub why_no_plan_only : (l : Loaded) (q : Ask) (r r' : Reason) → WhyNoPlan l q r → WhyNoPlan l q r' → r ≡ r'
why_no_plan_only l q r r' f g = go (ℕ_discrete (reason_verdict l q).number 0)
  where
    go : Dec ((reason_verdict l q).number ≡ 0) → r ≡ r'
    go (no n) = f.refuses n ∙ sym (g.refuses n)
    go (yes z) =
        let c = accepts (call_checks_lem false q.bound l q) z in
        let a = f.tells c in
        let b = g.tells c in
        a.1 ∙ ap reason_of (hindrance_only (problem l q) (cleared false q.bound l q c).order f.est g.est a.0 b.0 q.bound) ∙ sym b.1
