-- Following the house: which words allowed events give; from the words alone, the facts, the free jobs and the events that may come; the words after one.
-- Assumes nothing.
use mathlib.Core.Path.{◌≡◌, refl, sym, ◌∙◌, ap, subst}
use mathlib.Core.Logic.{◌⊎◌, inl, inr, ◌↔◌, ⊎_elim}
use mathlib.Core.Bool.{Bool, true, false, not, ◌&&◌}
use mathlib.Core.List.Memᴰ
use mathlib.Core.List.{[], ◌∷◌}
use Prim.Native.Nat.{ℕ, ◌<◌}
use native.Mathlib.Omega.{arith}
use lib.Dec.{T, eqb, ltb, ltb→lt, lt→ltb, eqb→eq, T_not, not_T}
use Rattle.facts.specs.Facts.{has}
use Rattle.facts.specs.Words.{Word}
use Rattle.facts.proofs.Bools.{T?, chosen, unchosen, and_l, and_r, and_of, or_cases, or_l, or_r, certain, eqb_of}
use Rattle.facts.proofs.Least.{any_of, any_at}
use Rattle.rules.specs.Table.{Problem}
use Rattle.rules.specs.Premises.{InOrder}
use Rattle.rules.specs.Plans.{Plan, in_plan, In, holds, Valid}
use Rattle.rules.specs.Pairs.{binds}
use Rattle.rules.specs.Execution.{Event, began, finished, Log, Logged, held, MayStart, MayFinish, Allowed}
use Rattle.rules.specs.Following.{WordsOf, EventOf, MayCome}
use Rattle.rules.specs.InStep.{still_bound, freed, InStep, can_come, WithEvent, finished_of}
use Rattle.rules.proofs.Named.{binds_at}
use Rattle.rules.proofs.Performed.{same_job, same_start, not_start, not_finish, is_in, has_begun, has_ended, facts_of}
use Rattle.rules.proofs.OneByOne.{OneByOne, one_by_one}

-- ── a log cut down to words ──

-- the event is in the words
picks : (started ended : ℕ) → Event → Bool
picks st en (began j) = has st j
picks st en (finished j) = has en j

keep_if : Bool → Event → Log → Log
keep_if true e h = e ∷ h
keep_if false e h = h

module _ (st en : ℕ) where
  -- the events of the log that are in the words
  kept : Log → Log
  kept [] = []
  kept (e ∷ h) = keep_if (picks st en e) e (kept h)

  if_tail : (b : Bool) (e x : Event) (h : Log) → Logged e h → Logged e (keep_if b x h)
  unfolding keep_if
  if_tail true e x h l = Memᴰ.tail l
  if_tail false e x h l = l

  if_head : (b : Bool) (x : Event) (h : Log) → T b → Logged x (keep_if b x h)
  unfolding keep_if
  if_head true x h t = Memᴰ.head refl
  if_head false x h t = absurd t

  if_cases : (b : Bool) (e x : Event) (h : Log) → Logged e (keep_if b x h) → (T b × (e ≡ x)) ⊎ Logged e h
  unfolding keep_if
  if_cases true e x h l = ⊎_elim (λ q. inl (tt, q)) inr (Memᴰ.cases_cons l)
  if_cases false e x h l = inr l

  kept_of : (e : Event) (h : Log) → Logged e h → T (picks st en e) → Logged e (kept h)
  unfolding kept
  kept_of e [] l t = l
  kept_of e (x ∷ h) l t = ⊎_elim (λ q. subst (λ (y : Event). Logged e (keep_if (picks st en y) y (kept h))) q (if_head (picks st en e) e (kept h) t))
      (λ m. if_tail (picks st en x) e x (kept h) (kept_of e h m t)) (Memᴰ.cases_cons l)

  kept_at : (e : Event) (h : Log) → Logged e (kept h) → Logged e h × T (picks st en e)
  unfolding kept
  kept_at e [] l = absurd (Memᴰ.not-nil l)
  kept_at e (x ∷ h) l = ⊎_elim (λ w. (Memᴰ.head w.1, subst (λ (y : Event). T (picks st en y)) (sym w.1) w.0))
      (λ m. let r = kept_at e h m in (Memᴰ.tail r.0, r.1)) (if_cases (picks st en x) e x (kept h) l)

-- ── which words allowed events give ──

module _ (P : Problem) (s : Plan) (en : ℕ) where
  pub bound_at : (j : ℕ) → j < P.count → T (still_bound P s en j) → (a : ℕ) × In P s a × T (binds P s a j) × (T (has en a) → ⊥)
  unfolding still_bound
  bound_at j l x =
      let y = any_at (λ a. binds P s a j && not (has en a)) P.count x in
      let b : T (binds P s y.0 j) = and_l (binds P s y.0 j) _ y.2 in
      (y.0, (binds_at P s y.0 j y.1 l b).first, b, T_not (has en y.0) (and_r (binds P s y.0 j) _ y.2))

  pub bound_for : (j a : ℕ) → In P s a → T (binds P s a j) → T (not (has en a)) → T (still_bound P s en j)
  unfolding still_bound
  bound_for j a i b n = any_of (λ a. binds P s a j && not (has en a)) P.count a i.below (and_of (binds P s a j) _ b n)

  -- a job is free exactly where it is in the plan and all that bind it have finished
  pub freed_at : (j : ℕ) → T (freed P s en j) → In P s j × ((a : ℕ) → In P s a → T (binds P s a j) → T (has en a))
  unfolding freed
  freed_at j x =
      let y = and_r (ltb j P.count) _ x in (
        record { below = ltb→lt j P.count (and_l (ltb j P.count) _ x); chosen = and_l (in_plan s j) _ y },
        λ a i b. certain (has en a) (λ n. T_not (still_bound P s en j) (and_r (in_plan s j) _ y) (bound_for j a i b n)),
      )

  pub freed_of : (j : ℕ) → In P s j → ((a : ℕ) → In P s a → T (binds P s a j) → T (has en a)) → T (freed P s en j)
  unfolding freed
  freed_of j i f = and_of (ltb j P.count) _ (lt→ltb j P.count i.below) (and_of (in_plan s j) _ i.chosen
      (not_T (still_bound P s en j) (λ x. let y = bound_at j i.below x in y.3 (f y.0 y.1 y.2))))

module _ (P : Problem) (s : Plan) (st en : ℕ) where
  -- an allowed log cut down to words in step is allowed
  kept_allowed : InStep P s st en → (h : Log) → Allowed P s h → Allowed P s (kept st en h)
  unfolding kept keep_if picks
  kept_allowed f [] al = al
  kept_allowed f (began j ∷ h) (m, al) = go (has st j) (λ t. t) (kept_allowed f h al)
    where
      go : (b : Bool) → (T b → T (has st j)) → Allowed P s (kept st en h) → Allowed P s (keep_if b (began j) (kept st en h))
      go false t r = r
      go true t r = (
        record {
          there = m.there;
          once = λ l. m.once (kept_at st en (began j) h l).0;
          free = λ a i b. kept_of st en (finished a) h (m.free a i b) ((freed_at P s en j (f.free j (t tt))).1 a i b);
        },
        r,
      )
  kept_allowed f (finished j ∷ h) (m, al) = go (has en j) (λ t. t) (kept_allowed f h al)
    where
      go : (b : Bool) → (T b → T (has en j)) → Allowed P s (kept st en h) → Allowed P s (keep_if b (finished j) (kept st en h))
      go false t r = r
      go true t r = (
        record {
          started = kept_of st en (began j) h m.started (f.begun j (t tt));
          once = λ l. m.once (kept_at st en (finished j) h l).0;
        },
        r,
      )

  reached_in_step : (h : Log) → WordsOf P s h st en → InStep P s st en
  reached_in_step h w = record {
    begun = λ j t. (w.starts j).1 (has_begun P s h w.allowed j ((w.finishes j).0 t));
    free = λ j t. freed_of P s en j (is_in P s h w.allowed j ((w.starts j).0 t)) (λ a i b. (w.finishes a).1 (has_ended P s h w.allowed a j i b ((w.starts j).0 t)));
  }

  -- the plan's jobs one by one, cut down to the words
  in_step_reached : InOrder P → (bound : ℕ) → Valid P bound s → InStep P s st en → (h : Log) × WordsOf P s h st en
  unfolding picks
  in_step_reached ok bound v f = (
    kept st en o.log,
    record {
      allowed = kept_allowed f o.log o.allowed;
      starts = λ j. (λ t. kept_of st en (began j) o.log (has_begun P s o.log o.allowed j (o.complete j (inside j t))) t, λ l. (kept_at st en (began j) o.log l).1);
      finishes = λ j. (λ t. kept_of st en (finished j) o.log (o.complete j (inside j (f.begun j t))) t, λ l. (kept_at st en (finished j) o.log l).1);
    },
  )
    where
      o : OneByOne P bound s
      o = one_by_one P ok bound s v

      inside : (j : ℕ) → T (has st j) → In P s j
      inside j t = (freed_at P s en j (f.free j t)).0

  -- the test on words passes exactly those that some allowed events give
  pub in_step : InOrder P → (bound : ℕ) → Valid P bound s → InStep P s st en ↔ ((h : Log) × WordsOf P s h st en)
  in_step ok bound v = (in_step_reached ok bound v, λ r. reached_in_step r.0 r.1)

-- ── what is allowed after a log, from its words ──

module _ (P : Problem) (s : Plan) (st en : ℕ) (h : Log) (w : WordsOf P s h st en) where
  pub may_start : (j : ℕ) → T (freed P s en j && not (has st j)) ↔ MayStart P s h j
  may_start j = (
    λ x. (
        let f = freed_at P s en j (and_l (freed P s en j) _ x) in
        record {
          there = f.0;
          once = λ l. T_not (has st j) (and_r (freed P s en j) _ x) ((w.starts j).1 l);
          free = λ a i b. (w.finishes a).0 (f.1 a i b);
        }
        ),
    λ m. and_of (freed P s en j) _ (freed_of P s en j m.there (λ a i b. (w.finishes a).1 (m.free a i b))) (not_T (has st j) (λ t. m.once ((w.starts j).0 t))),
  )

  may_finish : (j : ℕ) → T (has st j && not (has en j)) ↔ MayFinish h j
  may_finish j = (
    λ x. record { started = (w.starts j).0 (and_l (has st j) _ x); once = λ l. T_not (has en j) (and_r (has st j) _ x) ((w.finishes j).1 l) },
    λ m. and_of (has st j) _ ((w.starts j).1 m.started) (not_T (has en j) (λ t. m.once ((w.finishes j).0 t))),
  )

  -- an event passes the test exactly where it is allowed after these events
  module _ (free : ℕ) (f : Word (freed P s en) free) where
    starting : (j : ℕ) → (has free j && not (has st j)) ≡ (freed P s en j && not (has st j))
    starting j = ap (λ (b : Bool). b && not (has st j)) (f j)

    come_at : (k j : ℕ) → T (can_come free st en k j) → MayCome P s h k j
    unfolding can_come
    come_at k j x = ⊎_elim first second (T? (eqb k 0))
      where
        first : T (eqb k 0) → MayCome P s h k j
        first z = (
          began j,
          inl (eqb→eq k 0 z, refl),
          ((may_start j).0 (subst T (chosen (eqb k 0) _ _ z ∙ starting j) x), w.allowed),
        )

        second : (T (eqb k 0) → ⊥) → MayCome P s h k j
        second z = let y = subst T (unchosen (eqb k 0) _ _ z) x in (
          finished j,
          inr (eqb→eq k 1 (and_l (eqb k 1) _ y), refl),
          ((may_finish j).0 (and_r (eqb k 1) _ y), w.allowed),
        )

    come_of : (k j : ℕ) → MayCome P s h k j → T (can_come free st en k j)
    unfolding can_come
    come_of k j (e, inl (z, q), al) =
        let a : Allowed P s (began j ∷ h) = subst (λ (y : Event). Allowed P s (y ∷ h)) q al in
        subst T (sym (chosen (eqb k 0) _ _ (eqb_of z) ∙ starting j)) ((may_start j).1 a.0)
    come_of k j (e, inr (z, q), al) =
        let a : Allowed P s (finished j ∷ h) = subst (λ (y : Event). Allowed P s (y ∷ h)) q al in
        subst T (sym (unchosen (eqb k 0) _ _ (λ y. omega (arith, eqb→eq k 0 y)))) (and_of (eqb k 1) _ (eqb_of z) ((may_finish j).1 a.0))

    pub may_come : (k j : ℕ) → T (can_come free st en k j) ↔ MayCome P s h k j
    may_come k j = (come_at k j, come_of k j)

-- ── the facts now ──

module _ (P : Problem) (ok : InOrder P) (bound : ℕ) (s : Plan) (v : Valid P bound s) (st en : ℕ) (h : Log) (w : WordsOf P s h st en) where
  abbrev z : Plan
  z = finished_of en s

  ended : (j : ℕ) → In P z j → T (has en j)
  unfolding finished_of in_plan
  ended j i = ⊎_elim (λ t. t) (λ n. absurd (T_not (eqb (z j) 65535) i.chosen (eqb_of (unchosen (has en j) (s j) 65535 n)))) (T? (has en j))

  at : (j : ℕ) → T (has en j) → z j ≡ s j
  unfolding finished_of
  at j t = chosen (has en j) (s j) 65535 t

  now_in : (j : ℕ) → Logged (finished j) h → In P z j
  unfolding in_plan
  now_in j l =
      let i = is_in P s h w.allowed j (has_begun P s h w.allowed j l) in
      record { below = i.below; chosen = subst (λ (x : ℕ). T (not (eqb x 65535))) (sym (at j ((w.finishes j).1 l))) i.chosen }

  -- whatever the allowed events were, the facts now are those of the finished jobs in the plan's order of finish
  pub facts_now : (p : ℕ) → held P h p ≡ holds P (finished_of en s) p bound
  facts_now = facts_of P ok bound s v h w.allowed z (λ j. (λ i. (w.finishes j).0 (ended j i), now_in j)) (λ j i. at j (ended j i))

-- ── one event ──

pub words_after : (P : Problem) (s : Plan) (h : Log) (st en k j st' en' : ℕ) → WordsOf P s h st en → (m : MayCome P s h k j) → WithEvent st en k j st' en' → WordsOf P s (m.0 ∷ h) st' en'
words_after P s h st en k j st' en' w (x, q, al) (f, g) = record {
  allowed = al;
  starts = λ i. (
    λ t. ⊎_elim (λ y. Memᴰ.tail ((w.starts i).0 y)) (λ y. Memᴰ.head (begins i q y)) (or_cases (has st i) _ (subst T (f i) t)),
    λ l. subst T (sym (f i)) (⊎_elim (λ y. or_r (has st i) _ (begun i q y)) (λ y. or_l (has st i) _ ((w.starts i).1 y)) (Memᴰ.cases_cons l)),
  );
  finishes = λ i. (
    λ t. ⊎_elim (λ y. Memᴰ.tail ((w.finishes i).0 y)) (λ y. Memᴰ.head (ends i q y)) (or_cases (has en i) _ (subst T (g i) t)),
    λ l. subst T (sym (g i)) (⊎_elim (λ y. or_r (has en i) _ (ended i q y)) (λ y. or_l (has en i) _ ((w.finishes i).1 y)) (Memᴰ.cases_cons l)),
  );
}
  where
    begins : (i : ℕ) → EventOf k j x → T (eqb k 0 && eqb i j) → began i ≡ x
    begins i (inl (z, q)) y = ap began (eqb→eq i j (and_r (eqb k 0) _ y)) ∙ sym q
    begins i (inr (z, q)) y = absurd (omega (arith, eqb→eq k 0 (and_l (eqb k 0) _ y)))

    begun : (i : ℕ) → EventOf k j x → began i ≡ x → T (eqb k 0 && eqb i j)
    begun i (inl (z, q)) y = and_of (eqb k 0) _ (eqb_of z) (eqb_of (same_start (y ∙ q)))
    begun i (inr (z, q)) y = absurd (not_finish (y ∙ q))

    ends : (i : ℕ) → EventOf k j x → T (eqb k 1 && eqb i j) → finished i ≡ x
    ends i (inr (z, q)) y = ap finished (eqb→eq i j (and_r (eqb k 1) _ y)) ∙ sym q
    ends i (inl (z, q)) y = absurd (omega (arith, eqb→eq k 1 (and_l (eqb k 1) _ y)))

    ended : (i : ℕ) → EventOf k j x → finished i ≡ x → T (eqb k 1 && eqb i j)
    ended i (inr (z, q)) y = and_of (eqb k 1) _ (eqb_of z) (eqb_of (same_job (y ∙ q)))
    ended i (inl (z, q)) y = absurd (not_start (y ∙ q))
