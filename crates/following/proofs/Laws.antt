-- From the words of the steps to the promise of following.
-- Assumes nothing.
use mathlib.Core.Path.{◌≡◌, refl, sym, ◌∙◌, ap, subst}
use mathlib.Core.Bool.{Bool, false, not, ◌&&◌}
use mathlib.Core.List.{List}
use mathlib.Core.Logic.{⊎_elim}
use Prim.Native.Nat.{ℕ, ◌<◌}
use lib.Dec.{T, eqb, ltb, ltb→lt, lt→ltb, eqb→eq}
use Rattle.facts.specs.Facts.{has}
use Rattle.facts.specs.Words.{Word, Covers, Decides}
use Rattle.facts.proofs.Bools.{T?, chosen, unchosen, and_l, and_r, and_of, eqb_of, decides_test, same}
use Rattle.refusals.specs.Refusals.{Verdict, accepted, refused}
use Rattle.rules.specs.Table.{Problem}
use Rattle.rules.specs.Plans.{Plan, starts, in_plan, holds}
use Rattle.rules.specs.Pairs.{binds}
use Rattle.rules.specs.InStep.{freed, InStep, can_come}
use Rattle.rules.proofs.SamePlan.{holds_same}
use Rattle.rules.proofs.Named.{binds_at}
use Rattle.rules.proofs.Followed.{freed_at, freed_of}
use Rattle.rules.proofs.Answering.{answer_strange, answer_barred, answer_comes}
use Rattle.tables.specs.declared.Loaded.{Loaded}
use Rattle.tables.specs.declared.Answer.{Answer}
use Rattle.tables.specs.Tables.{problem, answer_of}
use Rattle.tables.specs.Steps.{Judges}
use Rattle.tables.proofs.Laws.{said, numbered}
use Rattle.tables.proofs.Calls.{goes_behind}
use Rattle.verdict.specs.Offered.{offered}
use Rattle.verdict.specs.Steps.{Sound, start_in}
use Rattle.verdict.proofs.Accepted.{offered_checks}
use Rattle.bindings.specs.Steps.{Binders}
use Rattle.following.specs.declared.Watch.{Watch}
use Rattle.following.specs.declared.Screen.{Screen}
use Rattle.following.specs.Screens.{dark, Following}
use Rattle.following.specs.Steps.{Screened}

-- ── the steps ──

-- a job of the plan all of whose binders have finished is free, and no other
pub freed_is : (P : Problem) (s : Plan) (en : ℕ) (before : ℕ → ℕ) → ((j : ℕ) → j < P.count → Binders P s j (before j))
    → (j : ℕ) → j < P.count → (y : Bool) → Decides y (T (start_in (s j)) × Covers en (before j)) → y ≡ freed P s en j
unfolding in_plan
freed_is P s en before b j l y d = decides_test (freed P s en j) d there back
  where
    there : T (start_in (s j)) × Covers en (before j) → T (freed P s en j)
    there (i, c) = freed_of P s en j (record { below = l; chosen = i })
        (λ a m x. c a (subst T (sym (b j l a)) (and_of (ltb a P.count) _ (lt→ltb a P.count m.below) x)))

    back : T (freed P s en j) → T (start_in (s j)) × Covers en (before j)
    back x = let f = freed_at P s en j x in (
      f.0.chosen,
      λ a t. (
          let h = subst T (b j f.0.below a) t in
          let y : T (binds P s a j) = and_r (ltb a P.count) _ h in
          f.1 a (binds_at P s a j (ltb→lt a P.count (and_l (ltb a P.count) _ h)) f.0.below y).first y
          ),
    )

-- a free job is one of the table
pub freed_below : (P : Problem) (s : Plan) (en w : ℕ) → Word (λ j. ltb j P.count && freed P s en j) w → Word (freed P s en) w
freed_below P s en w f j = f j ∙ same _ _ (and_r (ltb j P.count) _) (λ x. and_of (ltb j P.count) _ (lt→ltb j P.count (freed_at P s en j x).0.below) x)

-- the event by its number
pub come_start : (free st en k j : ℕ) {r : Bool} → k ≡ 0 → r ≡ (has free j && not (has st j)) → r ≡ can_come free st en k j
unfolding can_come
come_start free st en k j z e = e ∙ sym (chosen (eqb k 0) _ _ (eqb_of z))

pub come_other : (free st en k j : ℕ) {r : Bool} → (k ≡ 0 → ⊥) → r ≡ (eqb k 1 && (has st j && not (has en j))) → r ≡ can_come free st en k j
unfolding can_come
come_other free st en k j n e = e ∙ sym (unchosen (eqb k 0) _ _ (λ t. n (eqb→eq k 0 t)))

-- the words are in step by the words of started, finished and free jobs
pub step_of : (P : Problem) (s : Plan) (st en free : ℕ) → Word (freed P s en) free → Covers st en × Covers free st → InStep P s st en
step_of P s st en free f (a, b) = record { begun = a; free = λ j t. subst T (f j) (b j t) }

pub of_step : (P : Problem) (s : Plan) (st en free : ℕ) → Word (freed P s en) free → InStep P s st en → Covers st en × Covers free st
of_step P s st en free f i = (i.begun, λ j t. subst T (sym (f j)) (i.free j t))

-- the job of an event that may come is one of the table
pub come_below : (P : Problem) (s : Plan) (st en free k j : ℕ) → InStep P s st en → Word (freed P s en) free → T (can_come free st en k j) → j < P.count
unfolding can_come
come_below P s st en free k j i f x = ⊎_elim first second (T? (eqb k 0))
  where
    first : T (eqb k 0) → j < P.count
    first z = (freed_at P s en j (subst T (f j) (and_l (has free j) _ (subst T (chosen (eqb k 0) _ _ z) x)))).0.below

    second : (T (eqb k 0) → ⊥) → j < P.count
    second n = (freed_at P s en j (i.free j (and_l (has st j) _ (and_r (eqb k 1) _ (subst T (unchosen (eqb k 0) _ _ n) x))))).0.below

-- the facts of starts that agree with the finished jobs' are the facts now
pub facts_of : (P : Problem) (z s : Plan) (bound w : ℕ) → ((j : ℕ) → j < P.count → z j ≡ s j) → Word (λ p. holds P z p bound) w → Word (λ p. holds P s p bound) w
facts_of P z s bound w e h p = h p ∙ holds_same P z s e p bound

-- ── the answer ──

module _ (l : Loaded) (w : Watch) (s : List ℕ) {t : Answer} (judged : Judges (offered false l w.ask s accepted) (Sound false l w.ask s) t) where
  -- the plan is refused
  pub refused_plan : (t.number ≡ 0 → ⊥) → Following l w s (dark w t)
  refused_plan n = record {
    v = accepted;
    behind = λ e. absurd (n (numbered 0 0 judged.says ∙ ap (λ (x : Verdict). x.number) e));
    says = judged.says;
    refuses = λ z. refl;
  }

  module _ (z : t.number ≡ 0) where
    -- what is said behind the checks of the plan
    behind : (v : Verdict) {a : Answer} → a ≡ answer_of v 0 0 → a ≡ answer_of (offered false l w.ask s v) 0 0
    behind v e = e ∙ said 0 0 (goes_behind (offered_checks false l w.ask s) judged.says z v)

    k : Sound false l w.ask s
    k = judged.order z

    abbrev P : Problem
    P = problem l w.ask

    -- words that no allowed events give
    pub refused_words : (InStep P (starts s) w.started w.finished → ⊥) → {a : Answer} → a ≡ answer_of (refused 19 65535) 0 0 → Following l w s (dark w a)
    refused_words n e = record {
      v = refused 19 65535;
      behind = λ x. answer_strange P k.clear.order w.ask.bound (starts s) k.valid w.started w.finished w.event w.job _ _ _ _ n;
      says = behind (refused 19 65535) e;
      refuses = λ y. refl;
    }

    module _ (i : InStep P (starts s) w.started w.finished) (free : ℕ) (f : Word (freed P (starts s) w.finished) free) where
      -- an event that is not allowed
      pub refused_event : (T (can_come free w.started w.finished w.event w.job) → ⊥) → {a : Answer} → a ≡ answer_of (refused 19 w.job) 0 0 → Following l w s (dark w a)
      refused_event n e = record {
        v = refused 19 w.job;
        behind = λ x. answer_barred P k.clear.order w.ask.bound (starts s) k.valid w.started w.finished w.event w.job _ _ _ _ i free f n;
        says = behind (refused 19 w.job) e;
        refuses = λ y. refl;
      }

      -- an event that is
      pub followed : T (can_come free w.started w.finished w.event w.job) → {r : Screen} → Screened P w.ask.bound (starts s) w r → Following l w s r
      followed m {r} c = record {
        v = accepted;
        behind = λ x. answer_comes P k.clear.order w.ask.bound (starts s) k.valid w.started w.finished w.event w.job _ _ _ _ i free f m c.noted c.facts c.free;
        says = behind accepted c.says;
        refuses = λ y. absurd (y (numbered 0 0 c.says));
      }
