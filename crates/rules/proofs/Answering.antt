-- The answer to one event: how the tests on the words give it, that it is one, what is never allowed, and that some event is while a job is left.
-- Assumes nothing.
use mathlib.Core.Path.{◌≡◌, refl, sym, ◌∙◌, ap, subst}
use mathlib.Core.Logic.{◌⊎◌, inl, inr, ◌↔◌, ⊎_elim}
use mathlib.Core.Bool.{false, not, ◌&&◌, ◌||◌}
use mathlib.Core.List.Memᴰ
use mathlib.Core.List.{[], ◌∷◌}
use Prim.Native.Nat.{ℕ, zero, suc, ◌<◌, ◌≤◌, ◌^◌}
use native.Mathlib.Omega.{arith}
use native.Mathlib.Decide.{ℕ_discrete}
use lib.Bits.{bit_or}
use lib.Dec.{T, T_not, not_T}
use Rattle.facts.specs.Facts.{has}
use Rattle.facts.specs.Words.{Word}
use Rattle.facts.proofs.Bools.{T?, and_of, or_l, or_cases, same, certain}
use Rattle.facts.proofs.Sets.{has_zero, word_with}
use Rattle.refusals.specs.Refusals.{Verdict, accepted, refused, refused_for}
use Rattle.rules.specs.Table.{Problem, needs}
use Rattle.rules.specs.Premises.{InOrder}
use Rattle.rules.specs.Plans.{Plan, In, holds, Valid}
use Rattle.rules.specs.Pairs.{binds}
use Rattle.rules.specs.Execution.{Event, began, finished, Log, Logged, held, MayStart, MayFinish, Allowed}
use Rattle.rules.specs.Following.{WordsOf, MayCome, Shown, Answered}
use Rattle.rules.specs.InStep.{still_bound, freed, InStep, can_come, WithEvent, finished_of}
use Rattle.rules.proofs.Named.{binds_at}
use Rattle.rules.proofs.Performed.{below_start, is_in, has_begun, conditions}
use Rattle.rules.proofs.Followed.{bound_at, bound_for, freed_of, in_step, may_start, may_come, facts_now, words_after}

-- ── the answer, from the tests on the words ──

module _ (P : Problem) (ok : InOrder P) (bound : ℕ) (s : Plan) (v : Valid P bound s) (st en k j st' en' now next : ℕ) where
  pub answer_strange : (InStep P s st en → ⊥) → Answered P s st en k j (refused 19 65535) st' en' now next
  answer_strange n = record {
    strange = λ f. refl;
    barred = λ h w m. absurd (n ((in_step P s st en ok bound v).1 (h, w)));
    comes = λ h w m. absurd (n ((in_step P s st en ok bound v).1 (h, w)));
    shows = λ e. absurd (let z : ◌≡◌ {A = ℕ} 19 0 = ap (λ (x : Verdict). x.number) e in omega arith);
  }

  module _ (i : InStep P s st en) (free : ℕ) (f : Word (freed P s en) free) where
    some_log : (h : Log) × WordsOf P s h st en
    some_log = (in_step P s st en ok bound v).0 i

    pub answer_barred : (T (can_come free st en k j) → ⊥) → Answered P s st en k j (refused 19 j) st' en' now next
    answer_barred n = record {
      strange = λ f. absurd (f some_log.0 some_log.1);
      barred = λ h w m. refl;
      comes = λ h w m. absurd (n ((may_come P s st en h w free f k j).1 m));
      shows = λ e. absurd (let z : ◌≡◌ {A = ℕ} 19 0 = ap (λ (x : Verdict). x.number) e in omega arith);
    }

    pub answer_comes : T (can_come free st en k j) → WithEvent st en k j st' en' → Word (λ p. holds P (finished_of en' s) p bound) now → Word (λ i. freed P s en' i && not (has st' i)) next
        → Answered P s st en k j accepted st' en' now next
    answer_comes x a c d = record {
      strange = λ f. absurd (f some_log.0 some_log.1);
      barred = λ h w m. absurd (m ((may_come P s st en h w free f k j).0 x));
      comes = λ h w m. (refl, words_after P s h st en k j st' en' w m a);
      shows = λ e h w. record {
        facts = λ p. (subst T (c p ∙ sym (facts_now P ok bound s v st' en' h w p)), subst T (facts_now P ok bound s v st' en' h w p ∙ sym (c p)));
        free = λ i. (λ t. (may_start P s st' en' h w i).0 (subst T (d i) t), λ m. subst T (sym (d i)) ((may_start P s st' en' h w i).1 m));
      };
    }

-- ── the answer is one ──

-- two numbers, and two verdicts, that cannot differ are equal
no_other : (a b : ℕ) → ((a ≡ b → ⊥) → ⊥) → a ≡ b
no_other a b f = go (ℕ_discrete a b)
  where
    go : Dec (a ≡ b) → a ≡ b
    go (yes e) = e
    go (no n) = absurd (f n)

alike : (u v : Verdict) → ((u ≡ v → ⊥) → ⊥) → u ≡ v
alike u v f =
    ap (λ (n : ℕ). refused_for n u.second u.place) (no_other u.number v.number (λ n. f (λ e. n (ap (λ (x : Verdict). x.number) e))))
    ∙ ap (λ (n : ℕ). refused_for v.number n u.place) (no_other u.second v.second (λ n. f (λ e. n (ap (λ (x : Verdict). x.second) e))))
    ∙ ap (refused_for v.number v.second) (no_other u.place v.place (λ n. f (λ e. n (ap (λ (x : Verdict). x.place) e))))

module _ (P : Problem) (s : Plan) (st en k j : ℕ) where
  -- an event that is not refused came after some allowed events
  module _ (u : Verdict) (a b c d : ℕ) (f : Answered P s st en k j u a b c d) (z : u.number ≡ 0) where
    not_refused : (place : ℕ) → u ≡ refused 19 place → ⊥
    not_refused place e = let y : 19 ≡ u.number = ap (λ (x : Verdict). x.number) (sym e) in omega arith

    came : ((h : Log) → WordsOf P s h st en → MayCome P s h k j → ⊥) → ⊥
    came n = not_refused 65535 (f.strange (λ h w. not_refused j (f.barred h w (n h w))))

    pub accepted_of : u ≡ accepted
    accepted_of = alike u accepted (λ n. came (λ h w m. n (f.comes h w m).0))

  -- no answer has a second number
  pub no_second : (u : Verdict) (a b c d : ℕ) → Answered P s st en k j u a b c d → u.second ≡ 0
  no_second u a b c d f =
      no_other u.second 0 (λ n. n (ap second (f.strange (λ h w. n (ap second (f.barred h w (λ m. n (ap second (f.comes h w m).0))))))))
    where
      second : Verdict → ℕ
      second v = v.second

  module _ (u u' : Verdict) (a b c d a' b' c' d' : ℕ) (f : Answered P s st en k j u a b c d) (g : Answered P s st en k j u' a' b' c' d') where
    -- the same is said
    pub answered_only : u ≡ u'
    answered_only = alike u u' (λ n.
        n (f.strange (λ h w. none n h w) ∙ sym (g.strange (λ h w. none n h w))))
      where
        none : (u ≡ u' → ⊥) → (h : Log) → WordsOf P s h st en → ⊥
        none n h w = n (f.barred h w never ∙ sym (g.barred h w never))
          where
            never : MayCome P s h k j → ⊥
            never m = n ((f.comes h w m).0 ∙ sym (g.comes h w m).0)

    -- and where the event is accepted the four words have the same bits
    module _ (e : u ≡ accepted) (i : ℕ) where
      bit : (x y : ℕ) → ((h : Log) → WordsOf P s h a b → WordsOf P s h a' b' → T (has x i) → T (has y i)) → T (has x i) → T (has y i)
      bit x y h t = certain (has y i) (λ n. came u a b c d f (ap (λ (x : Verdict). x.number) e) (λ l w m. T_not (has y i) n (h (m.0 ∷ l) (f.comes l w m).1 (g.comes l w m).1 t)))

      shown : (h : Log) → WordsOf P s h a b → Shown P s h c d
      shown = f.shows e

      shown' : (h : Log) → WordsOf P s h a' b' → Shown P s h c' d'
      shown' = g.shows (sym answered_only ∙ e)

      pub same_started : has a i ≡ has a' i
      same_started = same _ _ (bit a a' (λ h w x t. (x.starts i).1 ((w.starts i).0 t))) (bit a' a (λ h w x t. (w.starts i).1 ((x.starts i).0 t)))

      pub same_finished : has b i ≡ has b' i
      same_finished = same _ _ (bit b b' (λ h w x t. (x.finishes i).1 ((w.finishes i).0 t))) (bit b' b (λ h w x t. (w.finishes i).1 ((x.finishes i).0 t)))

      pub same_facts : has c i ≡ has c' i
      same_facts = same _ _ (bit c c' (λ h w x t. ((shown' h x).facts i).1 (((shown h w).facts i).0 t))) (bit c' c (λ h w x t. ((shown h w).facts i).1 (((shown' h x).facts i).0 t)))

      pub same_free : has d i ≡ has d' i
      same_free = same _ _ (bit d d' (λ h w x t. ((shown' h x).free i).1 (((shown h w).free i).0 t))) (bit d' d (λ h w x t. ((shown h w).free i).1 (((shown' h x).free i).0 t)))

-- ── what is never allowed ──

-- an event against a binding pair, a second start, a second finish, a finish without a start, of a job unknown or out, or no event
abbrev pub Never : Problem → Plan → Log → (k j : ℕ) → Type 0
Never P s h k j =
    ((k ≡ 0) × ((a : ℕ) × In P s a × T (binds P s a j) × (Logged (finished a) h → ⊥)))
    ⊎ (((k ≡ 0) × Logged (began j) h)
    ⊎ (((k ≡ 1) × Logged (finished j) h)
    ⊎ (((k ≡ 1) × (Logged (began j) h → ⊥))
    ⊎ ((In P s j → ⊥) ⊎ (2 ≤ k)))))

module _ (P : Problem) (s : Plan) (h : Log) (al : Allowed P s h) (k j : ℕ) where
  -- an event that comes is the start of a job that may start or the finish of one that may finish
  pub comes_as : MayCome P s h k j → ((k ≡ 0) × MayStart P s h j) ⊎ ((k ≡ 1) × MayFinish h j)
  comes_as (e, inl (z, q), x) = inl (z, let y : Allowed P s (began j ∷ h) = subst (λ (y : Event). Allowed P s (y ∷ h)) q x in y.0)
  comes_as (e, inr (z, q), x) = inr (z, let y : Allowed P s (finished j ∷ h) = subst (λ (y : Event). Allowed P s (y ∷ h)) q x in y.0)

  pub never : Never P s h k j → MayCome P s h k j → ⊥
  never n m = go n (comes_as m)
    where
      go : Never P s h k j → ((k ≡ 0) × MayStart P s h j) ⊎ ((k ≡ 1) × MayFinish h j) → ⊥
      go (inl (z, (a, i, b, f))) (inl (y, x)) = f (x.free a i b)
      go (inl (z, w)) (inr (y, x)) = omega arith
      go (inr (inl (z, l))) (inl (y, x)) = x.once l
      go (inr (inl (z, l))) (inr (y, x)) = omega arith
      go (inr (inr (inl (z, l)))) (inl (y, x)) = omega arith
      go (inr (inr (inl (z, l)))) (inr (y, x)) = x.once l
      go (inr (inr (inr (inl (z, l))))) (inl (y, x)) = omega arith
      go (inr (inr (inr (inl (z, l))))) (inr (y, x)) = l x.started
      go (inr (inr (inr (inr (inl n))))) (inl (y, x)) = n x.there
      go (inr (inr (inr (inr (inl n))))) (inr (y, x)) = n (is_in P s h al j x.started)
      go (inr (inr (inr (inr (inr l))))) (inl (y, x)) = omega arith
      go (inr (inr (inr (inr (inr l))))) (inr (y, x)) = omega arith

-- ── some event is allowed while a job is left ──

-- a word to which nothing is added
as_was : (w : ℕ) → Word (λ i. has w i || false) w
as_was w i = same _ _ (or_l (has w i) _) (λ t. ⊎_elim (λ y. y) (λ y. absurd y) (or_cases (has w i) _ t))

module _ (P : Problem) (s : Plan) where
  -- before any event the words are 0
  pub none_yet : WordsOf P s [] 0 0
  none_yet = record {
    allowed = tt;
    starts = λ j. (λ t. absurd (has_zero j t), λ l. absurd (Memᴰ.not-nil l));
    finishes = λ j. (λ t. absurd (has_zero j t), λ l. absurd (Memᴰ.not-nil l));
  }

  -- and a job of the plan may start exactly where no job binds it
  pub at_first : (j : ℕ) → MayStart P s [] j ↔ (In P s j × ((a : ℕ) → In P s a → T (binds P s a j) → ⊥))
  at_first j = (
    λ m. (m.there, λ a i b. Memᴰ.not-nil (m.free a i b)),
    λ x. record { there = x.0; once = λ l. Memᴰ.not-nil l; free = λ a i b. absurd (x.1 a i b) },
  )

  -- every allowed log has its words
  pub words_exist : (h : Log) → Allowed P s h → (st en : ℕ) × WordsOf P s h st en
  words_exist [] al = (0, 0, none_yet)
  words_exist (began j ∷ h) (m, al) = go (words_exist h al)
    where
      go : ((st en : ℕ) × WordsOf P s h st en) → (st en : ℕ) × WordsOf P s (began j ∷ h) st en
      go (st, en, w) = (bit_or st (2 ^ j), en, words_after P s h st en 0 j (bit_or st (2 ^ j)) en w (began j, inl (refl, refl), (m, al)) (word_with st j, as_was en))
  words_exist (finished j ∷ h) (m, al) = go (words_exist h al)
    where
      go : ((st en : ℕ) × WordsOf P s h st en) → (st en : ℕ) × WordsOf P s (finished j ∷ h) st en
      go (st, en, w) = (st, bit_or en (2 ^ j), words_after P s h st en 1 j st (bit_or en (2 ^ j)) w (finished j, inr (refl, refl), (m, al)) (as_was st, word_with en j))

  module _ (ok : InOrder P) (h : Log) (st en : ℕ) (w : WordsOf P s h st en) where
    -- the job has started, or is free to, or still_bound for one that starts before it
    some_come : (t j : ℕ) → In P s j → (T (has en j) → ⊥) → s j < t → (k i : ℕ) × MayCome P s h k i
    some_come zero j i n l = absurd (omega arith)
    some_come (suc t) j i n l = pick (T? (has st j)) (T? (still_bound P s en j)) (some_come t)
      where
        free_of : (T (still_bound P s en j) → ⊥) → T (freed P s en j)
        free_of y = freed_of P s en j i (λ a k b. certain (has en a) (λ m. y (bound_for P s en j a k b m)))

        pick : T (has st j) ⊎ (T (has st j) → ⊥) → T (still_bound P s en j) ⊎ (T (still_bound P s en j) → ⊥)
            → ((a : ℕ) → In P s a → (T (has en a) → ⊥) → s a < t → (k i : ℕ) × MayCome P s h k i) → (k i : ℕ) × MayCome P s h k i
        pick (inl x) y r = (1, j, (finished j, inr (refl, refl), (record { started = (w.starts j).0 x; once = λ m. n ((w.finishes j).1 m) }, w.allowed)))
        pick (inr x) (inr y) r = (
          0,
          j,
          (began j, inl (refl, refl), ((may_start P s st en h w j).0 (and_of (freed P s en j) _ (free_of y) (not_T (has st j) x)), w.allowed)),
        )
        pick (inr x) (inl y) r =
            let b = bound_at P s en j i.below y in
            r b.0 b.1 b.3 (omega (arith, (binds_at P s b.0 j b.1.below i.below b.2).order, ok.long b.0 b.1.below))

    -- while a job of the plan has not finished, some event is allowed
    pub some_event : (j : ℕ) → In P s j → (T (has en j) → ⊥) → (k i : ℕ) × MayCome P s h k i
    some_event j i n = some_come (suc (s j)) j i n (omega arith)

-- the same of logs alone
pub while_jobs_are_left : (P : Problem) → InOrder P → (s : Plan) (h : Log) → Allowed P s h → (j : ℕ) → In P s j → (Logged (finished j) h → ⊥) → (e : Event) × Allowed P s (e ∷ h)
while_jobs_are_left P ok s h al j i n = go (words_exist P s h al)
  where
    go : ((st en : ℕ) × WordsOf P s h st en) → (e : Event) × Allowed P s (e ∷ h)
    go (st, en, w) = let r = some_event P s ok h st en w j i (λ t. n ((w.finishes j).0 t)) in (r.2.0, r.2.2)

-- a job that may start finds its conditions
pub finds_all : (P : Problem) → InOrder P → (bound : ℕ) (s : Plan) → Valid P bound s → (h : Log) → Allowed P s h → (j p : ℕ) → MayStart P s h j → needs P j p → T (held P h p)
unfolding held
finds_all P ok bound s v h al j p m n =
    conditions P ok bound s v (began j ∷ h) (m, al) [] (began j ∷ h) refl j p m.there n (Memᴰ.head refl)
    (λ l. m.once (has_begun P s h al j (below_start l)))
