-- The promise of following leaves one screen.
-- Assumes nothing.
use mathlib.Core.Path.{◌≡◌, sym, ◌∙◌, ap}
use mathlib.Core.Bool.{false}
use mathlib.Core.List.{List}
use Prim.Native.Nat.{ℕ}
use native.Mathlib.Decide.{ℕ_discrete}
use Rattle.facts.proofs.Sets.{same_word}
use Rattle.refusals.specs.Refusals.{Verdict, accepted}
use Rattle.refusals.proofs.Refused.{stopped, went_on}
use Rattle.rules.specs.Plans.{starts}
use Rattle.rules.specs.Following.{Answered}
use Rattle.rules.proofs.Answering.{accepted_of, answered_only, same_started, same_finished, same_facts, same_free}
use Rattle.tables.specs.declared.Loaded.{Loaded}
use Rattle.tables.specs.declared.Answer.{Answer}
use Rattle.tables.specs.Tables.{problem}
use Rattle.tables.proofs.Laws.{said, numbered}
use Rattle.verdict.specs.Offered.{offered}
use Rattle.verdict.proofs.Accepted.{offered_checks}
use Rattle.following.specs.declared.Watch.{Watch}
use Rattle.following.specs.declared.Screen.{Screen}
use Rattle.following.specs.Screens.{dark, Following}

-- screens whose parts are equal
alike : {r r' : Screen} → r.answer ≡ r'.answer → r.started ≡ r'.started → r.finished ≡ r'.finished → r.facts ≡ r'.facts → r.may_start ≡ r'.may_start → r ≡ r'
alike {r} {r'} h a b c d = whole
  where
    screen : Answer → (started finished facts next : ℕ) → Screen
    screen x i j k n = record { answer = x; started = i; finished = j; facts = k; may_start = n }

    whole : screen r.answer r.started r.finished r.facts r.may_start ≡ screen r'.answer r'.started r'.finished r'.facts r'.may_start
    whole = cc

module _ (l : Loaded) (w : Watch) (s : List ℕ) (r r' : Screen) (f : Following l w s r) (g : Following l w s r') where
  checks : Verdict → Verdict
  checks = offered false l w.ask s

  -- where the answer is the same and refuses, the screens are the same
  refused_same : r.answer ≡ r'.answer → (r.answer.number ≡ 0 → ⊥) → r ≡ r'
  refused_same e n = f.refuses n ∙ ap (dark w) e ∙ sym (g.refuses (λ z. n (ap (λ (a : Answer). a.number) e ∙ z)))

  -- the plan is refused
  no_plan_lem : ((checks accepted).number ≡ 0 → ⊥) → r ≡ r'
  unfolding checks
  no_plan_lem n =
      let at = stopped checks (offered_checks false l w.ask s) n in
      refused_same (f.says ∙ said 0 0 (at g.v ∙ sym (at f.v)) ∙ sym g.says) (λ z. n (ap (λ (v : Verdict). v.number) (sym (at f.v)) ∙ sym (numbered 0 0 f.says) ∙ z))

  -- the plan is accepted
  module _ (z : (checks accepted).number ≡ 0) where
    on : (v : Verdict) → checks v ≡ v
    unfolding checks
    on = went_on (offered false l w.ask s) (offered_checks false l w.ask s) z

    one : Answered (problem l w.ask) (starts s) w.started w.finished w.event w.job f.v r.started r.finished r.facts r.may_start
    unfolding checks
    one = f.behind (on accepted)

    other : Answered (problem l w.ask) (starts s) w.started w.finished w.event w.job g.v r'.started r'.finished r'.facts r'.may_start
    unfolding checks
    other = g.behind (on accepted)

    same_answer : r.answer ≡ r'.answer
    unfolding checks
    same_answer = f.says ∙ said 0 0 (on g.v ∙ sym (answered_only _ _ _ _ _ _ _ _ _ _ _ _ _ _ _ _ one other) ∙ sym (on f.v)) ∙ sym g.says

    accepted_same : f.v ≡ accepted → r ≡ r'
    accepted_same e =
        let a : r.started ≡ r'.started = same_word _ _ (λ i. same_started _ _ _ _ _ _ _ _ _ _ _ _ _ _ _ _ one other e i) in
        let b : r.finished ≡ r'.finished = same_word _ _ (λ i. same_finished _ _ _ _ _ _ _ _ _ _ _ _ _ _ _ _ one other e i) in
        let c : r.facts ≡ r'.facts = same_word _ _ (λ i. same_facts _ _ _ _ _ _ _ _ _ _ _ _ _ _ _ _ one other e i) in
        let d : r.may_start ≡ r'.may_start = same_word _ _ (λ i. same_free _ _ _ _ _ _ _ _ _ _ _ _ _ _ _ _ one other e i) in
        alike same_answer a b c d

  pub follow_only : r ≡ r'
  unfolding checks
  follow_only = go (ℕ_discrete (checks accepted).number 0)
    where
      go : Dec ((checks accepted).number ≡ 0) → r ≡ r'
      go (no n) = no_plan_lem n
      go (yes z) = pick (ℕ_discrete f.v.number 0)
        where
          pick : Dec (f.v.number ≡ 0) → r ≡ r'
          pick (yes y) = accepted_same z (accepted_of _ _ _ _ _ _ _ _ _ _ _ (one z) y)
          pick (no n) = refused_same (same_answer z) (λ y. n (ap (λ (v : Verdict). v.number) (sym (on z f.v)) ∙ sym (numbered 0 0 f.says) ∙ y))
