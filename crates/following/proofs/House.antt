-- What following says of the house, in the words of the request: every allowed log can be followed, what changes nothing, and an event while a job is left.
-- Assumes nothing.
use mathlib.Core.Path.{◌≡◌, sym, ◌∙◌, ap}
use mathlib.Core.Logic.{◌⊎◌, inl, inr, ◌↔◌}
use mathlib.Core.Bool.{false}
use mathlib.Core.List.{List, ◌∷◌}
use Prim.Native.Nat.{ℕ, ◌<◌}
use native.Mathlib.Omega.{arith}
use lib.Dec.{T}
use Rattle.facts.specs.Facts.{has}
use Rattle.facts.specs.Words.{Word, Covers}
use Rattle.refusals.specs.Refusals.{Verdict, accepted, refused}
use Rattle.refusals.proofs.Refused.{goes_on}
use Rattle.rules.specs.Table.{Problem, needs}
use Rattle.rules.specs.Plans.{starts, In, holds}
use Rattle.rules.specs.Execution.{Log, MayStart, MayFinish, Complete}
use Rattle.rules.specs.InStep.{freed}
use Rattle.rules.specs.Following.{WordsOf, MayCome, Shown, Answered}
use Rattle.rules.proofs.Followed.{in_step}
use Rattle.rules.proofs.Answering.{Never, never, comes_as, some_event, finds_all}
use Rattle.rules.proofs.Performed.{is_in, facts_same}
use Rattle.tables.specs.declared.Loaded.{Loaded}
use Rattle.tables.specs.declared.Ask.{Ask}
use Rattle.tables.specs.declared.Answer.{Answer}
use Rattle.tables.specs.Tables.{problem, answer_of}
use Rattle.tables.proofs.Laws.{said, numbered}
use Rattle.verdict.specs.Offered.{offered}
use Rattle.verdict.specs.Steps.{Sound}
use Rattle.verdict.proofs.Accepted.{offered_checks, sound}
use Rattle.following.specs.declared.Watch.{Watch}
use Rattle.following.specs.declared.Screen.{Screen}
use Rattle.following.specs.Screens.{dark, Following}
use Rattle.following.proofs.Laws.{step_of, of_step}

-- of a plan that is accepted
module _ (l : Loaded) (q : Ask) (s : List ℕ) (fine : offered false l q s accepted ≡ accepted) where
  abbrev P : Problem
  P = problem l q

  k : Sound false l q s
  k = sound false l q s fine

  -- the test that the code makes passes exactly the words that some allowed log gives
  pub words_tested : (st en free : ℕ) → Word (freed P (starts s) en) free → (Covers st en × Covers free st) ↔ ((h : Log) × WordsOf P (starts s) h st en)
  words_tested st en free f =
      let t = in_step P (starts s) st en k.clear.order q.bound k.valid in
      (λ x. t.0 (step_of P (starts s) st en free f x), λ y. of_step P (starts s) st en free f (t.1 y))

  -- what the screen is handed
  abbrev pub watch : (st en event job : ℕ) → Watch
  watch st en event job = record { ask = q; started = st; finished = en; event = event; job = job }

  module _ (st en e j : ℕ) (r : Screen) (f : Following l (watch st en e j) s r) where
    answer : Answered P (starts s) st en e j f.v r.started r.finished r.facts r.may_start
    answer = f.behind fine

    -- the answer says what is said of the event
    says : r.answer ≡ answer_of f.v 0 0
    says = f.says ∙ said 0 0 (sym (goes_on (offered false l q s) (offered_checks false l q s) accepted fine f.v))

    module _ (h : Log) (g : WordsOf P (starts s) h st en) where
      -- an event against a binding pair, a second start or finish, a finish without a start, of a job unknown or out, or no event: nothing changes
      pub changes_nothing : Never P (starts s) h e j → r ≡ dark (watch st en e j) (answer_of (refused 19 j) 0 0)
      changes_nothing n = f.refuses (λ z. nineteen (sym (ap (λ (a : Answer). a.number) x) ∙ z)) ∙ ap (dark (watch st en e j)) x
        where
          nineteen : ◌≡◌ {A = ℕ} 19 0 → ⊥
          nineteen z = omega arith

          x : r.answer ≡ answer_of (refused 19 j) 0 0
          x = says ∙ ap (λ (v : Verdict). answer_of v 0 0) (answer.barred h g (never P (starts s) h g.allowed e j n))

      module _ (m : MayCome P (starts s) h e j) where
        -- an event that is allowed after the events so far is accepted, the words are those of the events with it, and the screen is theirs
        pub accepts_event : (r.answer.number ≡ 0) × WordsOf P (starts s) (m.0 ∷ h) r.started r.finished × Shown P (starts s) (m.0 ∷ h) r.facts r.may_start
        accepts_event =
            let a = answer.comes h g m in
            (numbered 0 0 says ∙ ap (λ (v : Verdict). v.number) a.0, a.1, answer.shows a.0 (m.0 ∷ h) a.1)

        -- a job that the screen shows as free finds its conditions among the facts that it shows
        pub finds_conditions : (i p : ℕ) → T (has r.may_start i) → needs P i p → T (has r.facts p)
        finds_conditions i p t n =
            let a = accepts_event in
            (a.2.facts p).1 (finds_all P k.clear.order q.bound (starts s) k.valid (m.0 ∷ h) a.1.allowed i p ((a.2.free i).0 t) n)

        -- when all jobs of the plan have finished, the facts are the plan's own at the bound
        pub at_the_end : Complete P (starts s) (m.0 ∷ h) → (p : ℕ) → T (has r.facts p) ↔ T (holds P (starts s) p q.bound)
        at_the_end all p =
            let a = accepts_event in
            let x = facts_same P k.clear.order q.bound (starts s) k.valid (m.0 ∷ h) a.1.allowed all p in
            (λ t. rw x at ((a.2.facts p).0 t), λ t. (a.2.facts p).1 (rw x t))

  -- while a job of the plan has not finished, some event is accepted
  pub while_left : (st en : ℕ) (h : Log) → WordsOf P (starts s) h st en → (j : ℕ) → In P (starts s) j → (T (has en j) → ⊥)
      → (e i : ℕ) × (e < 2) × (i < P.count) × ((r : Screen) → Following l (watch st en e i) s r → r.answer.number ≡ 0)
  while_left st en h g j i n = go (some_event P (starts s) k.clear.order h st en g j i n)
    where
      go : (e i : ℕ) × MayCome P (starts s) h e i → (e i : ℕ) × (e < 2) × (i < P.count) × ((r : Screen) → Following l (watch st en e i) s r → r.answer.number ≡ 0)
      go (e, i, m) = let b = known (comes_as P (starts s) h g.allowed e i m) in (e, i, b.0, b.1, λ r f. (accepts_event st en e i r f h g m).0)
        where
          known : ((e ≡ 0) × MayStart P (starts s) h i) ⊎ ((e ≡ 1) × MayFinish h i) → (e < 2) × (i < P.count)
          known (inl (z, x)) = (omega arith, x.there.below)
          known (inr (z, x)) = (omega arith, (is_in P (starts s) h g.allowed i x.started).below)
