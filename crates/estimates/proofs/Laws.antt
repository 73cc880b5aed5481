-- Rounds of estimates.
-- Assumes nothing.
use mathlib.Core.Path.{◌≡◌, refl, sym, ap, ◌∙◌}
use mathlib.Core.Logic.{◌⊎◌, inl, inr, ⊎_elim}
use mathlib.Core.Bool.{Bool, true, false, cond, not, ◌&&◌, ◌||◌}
use mathlib.Core.List.{List}
use Prim.Native.Nat.{ℕ, zero, suc, ◌+◌, ◌≤◌, ◌<◌, min, max}
use native.Mathlib.Omega.{arith}
use native.Mathlib.Numerals.{add-one}
use lib.Dec.{T, T_not, ltb, ltb→lt, lt→ltb}
use lib.ListN.{length, set, length-set, replicate, get_or-replicate}
use lib.Seq.{get_or-set_other}
use Rattle.facts.specs.Facts.{has}
use Rattle.facts.specs.Least.{any}
use Rattle.facts.specs.Words.{Word}
use Rattle.facts.proofs.Bools.{T?, and_l, and_r, and_of, or_cases, or_l, or_r, certain, at_most, below_suc}
use Rattle.facts.proofs.Bools as bools
use Rattle.facts.proofs.Sets.{has_zero}
use Rattle.facts.proofs.Least.{any_of, any_at}
use Rattle.rules.specs.Table.{Problem}
use Rattle.rules.specs.Estimates.{plus, cheapest, cost, condition, dearest, Estimates}
use Rattle.rules.proofs.Sums.{sum_le, sum_falls, cond_yes, cond_no}
use Rattle.rules.specs.Sums.{sum}
use Rattle.rules.proofs.Early.{plus_mono, cheapest_cap, cheapest_le, cheapest_mono, cost_free, cost_cap, dearest_ge, dearest_mono, dearest_cap}
use Rattle.entries.specs.Entries.{entry}
use Rattle.entries.proofs.Laws.{stored}
use Rattle.estimates.specs.Rounds.{greatest, lagging, Costs, NextRound, Lowers, amid, Cheaper, at_first, due, Rests, AfterRound}

-- ── a job more, as a loop's counter says it ──

cheapest_more : (P : Problem) (e : ℕ → ℕ) (p k : ℕ) → min (cond (has (P.additions k) p) (plus (e k) (P.duration k)) 65535) (cheapest P e p k) ≡ cheapest P e p (k + 1)
unfolding cheapest
cheapest_more P e p k = ap (cheapest P e p) (sym (add-one k))

-- ── the greatest cost ──

pub greatest_ge : (w : ℕ) (costs : List ℕ) (k p : ℕ) → p < k → T (has w p) → entry costs p ≤ greatest w costs k
unfolding greatest
greatest_ge w costs zero p l h = absurd (omega arith)
greatest_ge w costs (suc k) p l h = go (below_suc p k l) (λ m. greatest_ge w costs k p m h)
  where
    go : (p < k) ⊎ (p ≡ k) → (p < k → entry costs p ≤ greatest w costs k) → entry costs p ≤ max (cond (has w k) (entry costs k) 0) (greatest w costs k)
    go (inl m) r = omega (arith, r m)
    go (inr m) r = rw m (omega (arith, cond_yes (has w k) (entry costs k) 0 (rw m at h)))

pub greatest_le : (w : ℕ) (costs : List ℕ) (m k : ℕ) → ((p : ℕ) → p < k → T (has w p) → entry costs p ≤ m) → greatest w costs k ≤ m
unfolding greatest
greatest_le w costs m zero h = omega arith
greatest_le w costs m (suc k) h = go (T? (has w k)) (greatest_le w costs m k (λ p l. h p (omega arith)))
  where
    go : T (has w k) ⊎ (T (has w k) → ⊥) → greatest w costs k ≤ m → max (cond (has w k) (entry costs k) 0) (greatest w costs k) ≤ m
    go (inl g) r = omega (arith, cond_yes (has w k) (entry costs k) 0 g, h k (omega arith) g)
    go (inr n) r = omega (arith, cond_no (has w k) (entry costs k) 0 n)

-- costs that are alike where the word has a fact
greatest_same : (w : ℕ) (a b : List ℕ) (k : ℕ) → ((p : ℕ) → p < k → T (has w p) → entry a p ≡ entry b p) → greatest w a k ≡ greatest w b k
greatest_same w a b k h = omega (
  arith,
  greatest_le w a (greatest w b k) k (λ p l g. omega (arith, h p l g, greatest_ge w b k p l g)),
  greatest_le w b (greatest w a k) k (λ p l g. omega (arith, h p l g, greatest_ge w a k p l g)),
)

-- ── costs ──

module _ (P : Problem) (e : ℕ → ℕ) (p : ℕ) where
  cost_closed : (lag : ℕ) → (T (has P.opening p) → ⊥) → plus (cheapest P e p P.count) lag ≡ lagging P e lag p
  unfolding cost
  cost_closed lag n =
      ap (λ (c : ℕ). plus c lag) (sym (cond_no (has P.opening p) 0 (cheapest P e p P.count) n)) ∙ sym (cond_no (has P.opening p) 0 (plus (cost P e p) lag) n)

  -- without a lag a fact costs what it costs
  pub lag_none : lagging P e 0 p ≡ cost P e p
  unfolding plus
  lag_none = ⊎_elim (λ o. cond_yes (has P.opening p) 0 _ o ∙ sym (cost_free P e p o))
      (λ n. cond_no (has P.opening p) 0 _ n ∙ omega (arith, cost_cap P e p)) (T? (has P.opening p))

-- where no job is reached, no job adds a fact at a cost
cheapest_never : (P : Problem) (e : ℕ → ℕ) (p k : ℕ) → ((i : ℕ) → i < k → e i ≡ 65535) → cheapest P e p k ≡ 65535
unfolding cheapest plus
cheapest_never P e p zero h = refl
cheapest_never P e p (suc k) h = go (T? (has (P.additions k) p)) (cheapest_never P e p k (λ i l. h i (omega arith)))
  where
    go : T (has (P.additions k) p) ⊎ (T (has (P.additions k) p) → ⊥) → cheapest P e p k ≡ 65535 → min (cond (has (P.additions k) p) (min 65535 (e k + P.duration k)) 65535) (cheapest P e p k) ≡ 65535
    go (inl y) r = omega (arith, cond_yes (has (P.additions k) p) (min 65535 (e k + P.duration k)) 65535 y, h k (omega arith))
    go (inr n) r = omega (arith, cond_no (has (P.additions k) p) (min 65535 (e k + P.duration k)) 65535 n)

plus_never : (c lag : ℕ) → c ≡ 65535 → plus c lag ≡ 65535
unfolding plus
plus_never c lag h = omega arith

pub opening_costs : (opening : ℕ) (new : List ℕ) (r : ℕ) → Lowers (has opening) 0 0 (replicate 64 65535) new r → Costs (λ p. cond (has opening p) 0 65535) new 64
opening_costs opening new r h p m = h.costs p m ∙ ap (λ (x : ℕ). cond (has opening p) (min 0 x) x) (get_or-replicate 64 p 65535 0 m)

pub unreached_costs : (P : Problem) (e : ℕ → ℕ) (lag : ℕ) (costs : List ℕ) → ((i : ℕ) → i < P.count → e i ≡ 65535) → Costs (λ p. cond (has P.opening p) 0 65535) costs 64 → Costs (lagging P e lag) costs 64
unreached_costs P e lag costs h c p l = c p l ∙ go (T? (has P.opening p))
  where
    go : T (has P.opening p) ⊎ (T (has P.opening p) → ⊥) → cond (has P.opening p) 0 65535 ≡ lagging P e lag p
    go (inl o) = cond_yes (has P.opening p) 0 65535 o ∙ sym (cond_yes (has P.opening p) 0 _ o)
    go (inr n) = cond_no (has P.opening p) 0 65535 n ∙ sym (plus_never (cheapest P e p P.count) lag (cheapest_never P e p P.count h)) ∙ cost_closed P e p lag n

-- ── jobs that come to their next estimates, one by one ──

plus_min : (a c lag : ℕ) → min (plus a lag) (plus c lag) ≡ plus (min a c) lag
unfolding plus
plus_min a c lag = omega arith

pub at_most_1 : (b : Bool) → cond b 1 0 ≤ 1
at_most_1 true = omega arith
at_most_1 false = omega arith

pub cond_low : (b : Bool) (c x : ℕ) → cond b (min c x) x ≤ x
cond_low true c x = omega arith
cond_low false c x = omega arith

-- lower than the first is lower than the second, or that lower than the first
pub ltb_more : (a b c : ℕ) → b ≤ a → c ≤ b → (ltb b a || ltb c b) ≡ ltb c a
ltb_more a b c k l = bools.same (ltb b a || ltb c b) (ltb c a) (λ t. ⊎_elim (λ x. lt→ltb c a (omega (arith, ltb→lt b a x))) (λ x. lt→ltb c a (omega (arith, ltb→lt c b x))) (or_cases (ltb b a) (ltb c b) t)) (λ t. go t (T? (ltb b a)))
  where
    go : T (ltb c a) → T (ltb b a) ⊎ (T (ltb b a) → ⊥) → T (ltb b a || ltb c b)
    go t (inl y) = or_l (ltb b a) (ltb c b) y
    go t (inr n) = or_r (ltb b a) (ltb c b) (lt→ltb c b (omega (arith, ltb→lt c a t, at_most b a n)))

module _ (P : Problem) (next est : ℕ → ℕ) (lag : ℕ) where
  abbrev all : ℕ → ℕ
  all p = cheapest P est p P.count

  amid_closed : (k p : ℕ) → (T (has P.opening p) → ⊥) → amid P next est lag k p ≡ plus (min (cheapest P next p k) (all p)) lag
  amid_closed k p n = cond_no (has P.opening p) 0 (plus (min (cheapest P next p k) (all p)) lag) n

  amid_none : (p : ℕ) → lagging P est lag p ≡ amid P next est lag 0 p
  unfolding cheapest
  amid_none p = ⊎_elim (λ o. cond_yes (has P.opening p) 0 _ o ∙ sym (cond_yes (has P.opening p) 0 _ o))
      (λ n. sym (cost_closed P est p lag n) ∙ ap (λ (c : ℕ). plus c lag) (omega (arith, cheapest_cap P est p P.count)) ∙ sym (amid_closed 0 p n)) (T? (has P.opening p))

  pub amid_all : (p : ℕ) → cheapest P next p P.count ≤ all p → amid P next est lag P.count p ≡ lagging P next lag p
  amid_all p h = ⊎_elim (λ o. cond_yes (has P.opening p) 0 _ o ∙ sym (cond_yes (has P.opening p) 0 _ o))
      (λ n. amid_closed P.count p n ∙ ap (λ (c : ℕ). plus c lag) (omega arith) ∙ cost_closed P next p lag n) (T? (has P.opening p))

  module _ (k : ℕ) (l : k < P.count) (p : ℕ) where
    abbrev adds : Bool
    adds = has (P.additions k) p

    abbrev by : ℕ
    by = plus (next k) (P.duration k)

    amid_more : cond (ltb (next k) (est k) && adds) (min (plus by lag) (amid P next est lag k p)) (amid P next est lag k p) ≡ amid P next est lag (k + 1) p
    amid_more = go (T? (has P.opening p)) (T? adds) (T? (ltb (next k) (est k)))
      where
        here : ℕ
        here = amid P next est lag k p

        more : min (cond adds by 65535) (cheapest P next p k) ≡ cheapest P next p (k + 1)
        more = cheapest_more P next p k

        stays : (T (ltb (next k) (est k) && adds) → ⊥) → (T (has P.opening p) → ⊥) → min (cheapest P next p k) (all p) ≡ min (cheapest P next p (k + 1)) (all p) → cond (ltb (next k) (est k) && adds) (min (plus by lag) here) here ≡ amid P next est lag (k + 1) p
        stays x n e = cond_no (ltb (next k) (est k) && adds) (min (plus by lag) here) here x ∙ amid_closed k p n ∙ ap (λ (c : ℕ). plus c lag) e ∙ sym (amid_closed (k + 1) p n)

        go : T (has P.opening p) ⊎ (T (has P.opening p) → ⊥) → T adds ⊎ (T adds → ⊥) → T (ltb (next k) (est k)) ⊎ (T (ltb (next k) (est k)) → ⊥) → cond (ltb (next k) (est k) && adds) (min (plus by lag) here) here ≡ amid P next est lag (k + 1) p
        go (inl o) a f = omega (arith, cond_low (ltb (next k) (est k) && adds) (plus by lag) here, cond_yes (has P.opening p) 0 (plus (min (cheapest P next p k) (all p)) lag) o, cond_yes (has P.opening p) 0 (plus (min (cheapest P next p (k + 1)) (all p)) lag) o)
        go (inr n) (inl a) (inl f) =
            cond_yes (ltb (next k) (est k) && adds) (min (plus by lag) here) here (and_of (ltb (next k) (est k)) adds f a)
            ∙ ap (min (plus by lag)) (amid_closed k p n)
            ∙ plus_min by (min (cheapest P next p k) (all p)) lag
            ∙ ap (λ (c : ℕ). plus c lag) (omega (arith, more, cond_yes adds by 65535 a))
            ∙ sym (amid_closed (k + 1) p n)
        go (inr n) (inl a) (inr f) = stays (λ t. f (and_l (ltb (next k) (est k)) adds t)) n
            (omega (arith, more, cond_yes adds by 65535 a, cheapest_le P est p P.count k l a, plus_mono (est k) (next k) (P.duration k) (at_most (next k) (est k) f)))
        go (inr n) (inr a) f = stays (λ t. a (and_r (ltb (next k) (est k)) adds t)) n (omega (arith, more, cond_no adds by 65535 a, cheapest_cap P next p k))

  -- no job has come yet
  pub cheaper_none : (old : List ℕ) → Costs (lagging P est lag) old 64 → Cheaper P next est lag 0 old old 0
  cheaper_none old h = record {
    costs = λ p m. h p m ∙ amid_none p;
    falls = λ p m. omega arith;
    cheaper = λ p m. bools.same _ _ (λ t. absurd (has_zero p t)) (λ t. absurd (omega (arith, ltb→lt (entry old p) (entry old p) t)));
  }

  -- job k comes
  pub cheaper_more : (k : ℕ) (old now new : List ℕ) (w r : ℕ) → k < P.count → Cheaper P next est lag k old now w
      → Lowers (λ p. ltb (next k) (est k) && has (P.additions k) p) (plus (plus (next k) (P.duration k)) lag) w now new r → Cheaper P next est lag (k + 1) old new r
  cheaper_more k old now new w r l h d = record {
    costs = λ p m. d.costs p m ∙ ap (λ (c : ℕ). cond (ltb (next k) (est k) && has (P.additions k) p) (min (plus (plus (next k) (P.duration k)) lag) c) c) (h.costs p m) ∙ amid_more k l p;
    falls = λ p m. omega (arith, low p m, h.falls p m);
    cheaper = λ p m. d.cheaper p m ∙ ap (λ (b : Bool). b || ltb (entry new p) (entry now p)) (h.cheaper p m) ∙ ltb_more (entry old p) (entry now p) (entry new p) (h.falls p m) (low p m);
  }
    where
      low : (p : ℕ) → p < 64 → entry new p ≤ entry now p
      low p m = omega (arith, d.costs p m, cond_low (ltb (next k) (est k) && has (P.additions k) p) (plus (plus (next k) (P.duration k)) lag) (entry now p))

-- all jobs come from where none is reached
pub reached_costs : (P : Problem) (none est : ℕ → ℕ) (lag : ℕ) (old new : List ℕ) (r : ℕ) → ((i : ℕ) → i < P.count → none i ≡ 65535) → Cheaper P est none lag P.count old new r → Costs (lagging P est lag) new 64
reached_costs P none est lag old new r never h p m = h.costs p m ∙ amid_all P est none lag p (omega (arith, cheapest_cap P est p P.count, cheapest_never P none p P.count never))

-- ── the first round ──

module _ (P : Problem) (e : ℕ → ℕ) where
  dearest_open : (i k : ℕ) → ((p : ℕ) → p < k → T (has (P.conditions i) p) → T (has P.opening p)) → dearest P e i k ≡ P.release i
  unfolding dearest condition
  dearest_open i zero h = refl
  dearest_open i (suc k) h = go (T? (has (P.conditions i) k)) (dearest_open i k (λ p l. h p (omega arith)))
    where
      what : ℕ
      what = cond (has P.opening k) 0 (plus (cost P e k) P.gap)

      go : T (has (P.conditions i) k) ⊎ (T (has (P.conditions i) k) → ⊥) → dearest P e i k ≡ P.release i → max (cond (has (P.conditions i) k) what 0) (dearest P e i k) ≡ P.release i
      go (inl y) r = omega (arith, cond_yes (has (P.conditions i) k) what 0 y, cond_yes (has P.opening k) 0 (plus (cost P e k) P.gap) (h k (omega arith) y))
      go (inr n) r = omega (arith, cond_no (has (P.conditions i) k) what 0 n)

  -- where no job is reached, a job has its release for its estimate or none
  pub first_is : ((i : ℕ) → i < P.count → e i ≡ 65535) → (i : ℕ) → P.release i ≤ 65535 → at_first (P.conditions i) P.opening (P.release i) ≡ dearest P e i 64
  unfolding condition
  first_is never i late = go (T? (any closed 64))
    where
      closed : ℕ → Bool
      closed p = has (P.conditions i) p && not (has P.opening p)

      dear : (p : ℕ) → p < 64 → T (closed p) → 65535 ≡ dearest P e i 64
      dear p l t =
          let n : T (has P.opening p) → ⊥ = T_not (has P.opening p) (and_r (has (P.conditions i) p) _ t) in
          omega (
            arith,
            dearest_cap P e i,
            dearest_ge P e i 64 p l (and_l (has (P.conditions i) p) _ t),
            sym (cost_closed P e p P.gap n) ∙ plus_never (cheapest P e p P.count) P.gap (cheapest_never P e p P.count never),
          )

      go : T (any closed 64) ⊎ (T (any closed 64) → ⊥) → cond (any closed 64) 65535 (P.release i) ≡ dearest P e i 64
      go (inl y) = let w = any_at closed 64 y in cond_yes (any closed 64) 65535 (P.release i) y ∙ dear w.0 w.1 w.2
      go (inr n) = cond_no (any closed 64) 65535 (P.release i) n
          ∙ sym (dearest_open i 64 (λ p l g. certain (has P.opening p) (λ t. n (any_of closed 64 p l (and_of (has (P.conditions i) p) _ g t)))))

-- ── a round ──

module _ (P : Problem) where
  -- the greater of the release and the greatest cost
  pub greatest_is : (e : ℕ → ℕ) (costs : List ℕ) (i k : ℕ) → k ≤ 64 → Costs (lagging P e P.gap) costs 64 → max (P.release i) (greatest (P.conditions i) costs k) ≡ dearest P e i k
  unfolding greatest dearest condition
  greatest_is e costs i zero l h = omega arith
  greatest_is e costs i (suc p) l h =
      let c : entry costs p ≡ condition P e p = h p (omega arith) in
      let r : max (P.release i) (greatest (P.conditions i) costs p) ≡ dearest P e i p = greatest_is e costs i p (omega arith) h in
      rw c (omega arith)

  -- what a look gives a job
  pub look_is : (e : ℕ → ℕ) (costs : List ℕ) (cheaper i : ℕ) → i < P.count → Costs (lagging P e P.gap) costs 64 → Rests P e cheaper
      → cond (due (P.conditions i) cheaper) (max (P.release i) (greatest (P.conditions i) costs 64)) (e i) ≡ dearest P e i 64
  look_is e costs cheaper i l h s = go (T? (due (P.conditions i) cheaper))
    where
      new : ℕ
      new = max (P.release i) (greatest (P.conditions i) costs 64)

      go : T (due (P.conditions i) cheaper) ⊎ (T (due (P.conditions i) cheaper) → ⊥) → cond (due (P.conditions i) cheaper) new (e i) ≡ dearest P e i 64
      go (inl y) = cond_yes (due (P.conditions i) cheaper) new (e i) y ∙ greatest_is e costs i 64 (omega arith) h
      go (inr n) = cond_no (due (P.conditions i) cheaper) new (e i) n ∙ s i l n

  -- no estimate is too low
  abbrev pub High : (ℕ → ℕ) → Type 0
  High est = (i : ℕ) → i < P.count → dearest P est i 64 ≤ est i

  high_next : (est next : ℕ → ℕ) → High est → ((i : ℕ) → i < P.count → next i ≡ dearest P est i 64) → High next
  high_next est next h r i l = rw (r i l) (dearest_mono P next est i 64 (λ j m. rw (r j m) (h j m)))

  cheapest_same : (f g : ℕ → ℕ) (p : ℕ) → ((i : ℕ) → i < P.count → f i ≡ g i) → cheapest P f p P.count ≡ cheapest P g p P.count
  cheapest_same f g p h = omega (arith, cheapest_mono P f g p P.count (λ i l. omega (arith, h i l)), cheapest_mono P g f p P.count (λ i l. omega (arith, h i l)))

  lagging_same : (f g : ℕ → ℕ) (lag p : ℕ) → ((i : ℕ) → i < P.count → f i ≡ g i) → lagging P f lag p ≡ lagging P g lag p
  lagging_same f g lag p h = ⊎_elim (λ o. cond_yes (has P.opening p) 0 _ o ∙ sym (cond_yes (has P.opening p) 0 _ o))
      (λ n. sym (cost_closed P f p lag n) ∙ ap (λ (c : ℕ). plus c lag) (cheapest_same f g p h) ∙ cost_closed P g p lag n) (T? (has P.opening p))

  -- a job none of whose conditions got cheaper keeps its estimate
  rests_next : (est next : ℕ → ℕ) (old new : List ℕ) (r : ℕ) → Costs (lagging P est P.gap) old 64 → Costs (lagging P next P.gap) new 64 → ((p : ℕ) → p < 64 → entry new p ≤ entry old p)
      → ((p : ℕ) → p < 64 → has r p ≡ ltb (entry new p) (entry old p)) → ((i : ℕ) → i < P.count → next i ≡ dearest P est i 64) → Rests P next r
  rests_next est next old new r a b falls cheaper is i l n = is i l ∙ sym (greatest_is est old i 64 (omega arith) a)
      ∙ ap (max (P.release i)) (greatest_same (P.conditions i) old new 64 (λ p m g. omega (arith, falls p m, at_most (entry new p) (entry old p) (λ t. n (met p m g t))))) ∙ greatest_is next new i 64 (omega arith) b
    where
      met : (p : ℕ) → p < 64 → T (has (P.conditions i) p) → T (ltb (entry new p) (entry old p)) → T (due (P.conditions i) r)
      met p m g t = any_of (λ q. has (P.conditions i) q && has r q) 64 p m (and_of (has (P.conditions i) p) (has r p) g (rw (cheaper p m) t))

  -- a round amid its jobs: those below k have their next estimates, the others those of before
  pub record Going (est old : List ℕ) (k : ℕ) (now new : List ℕ) (r : ℕ) : Type 0 where
    pub room : length now ≡ 24
    pub is : NextRound P (entry est) now k
    pub rest : (i : ℕ) → k ≤ i → entry now i ≡ entry est i
    pub costs : Cheaper P (λ i. dearest P (entry est) i 64) (entry est) P.gap k old new r

  module _ (est old : List ℕ) (h : Costs (lagging P (entry est) P.gap) old 64) where
    pub going_none : length est ≡ 24 → Going est old 0 est old 0
    going_none e = record { room = e; is = λ i l. absurd (omega arith); rest = λ i l. refl; costs = cheaper_none P _ (entry est) P.gap old h }

    pub going_more : (cheaper k : ℕ) (now new : List ℕ) (w v : ℕ) (then : List ℕ) (r : ℕ) → Rests P (entry est) cheaper → k < P.count → P.count ≤ 24 → Going est old k now new w
        → v ≡ cond (due (P.conditions k) cheaper) (max (P.release k) (greatest (P.conditions k) old 64)) (entry now k)
        → Lowers (λ p. ltb v (entry now k) && has (P.additions k) p) (plus (plus v (P.duration k)) P.gap) w new then r → Going est old (k + 1) (set now k v) then r
    going_more cheaper k now new w v then r s l few g looks lowers = record {
      room = simp length-set g.room;
      is = stored _ now k v (omega (arith, g.room)) g.is is;
      rest = λ i m. get_or-set_other now k i v 0 (λ e. absurd (omega arith)) ∙ g.rest i (omega arith);
      costs = cheaper_more P (λ i. dearest P (entry est) i 64) (entry est) P.gap k old new then w r l g.costs (rw is at (rw (g.rest k (omega arith)) at lowers));
    }
      where
        is : v ≡ dearest P (entry est) k 64
        is = (rw (g.rest k (omega arith)) at looks) ∙ look_is (entry est) old cheaper k l h s

    pub going_all : (now new : List ℕ) (r : ℕ) → Going est old P.count now new r → AfterRound P est old now new r
    going_all now new r g = record { room = g.room; is = g.is; costs = g.costs }

  -- where the estimates stand between two rounds
  pub record Standing (est now : List ℕ) (cheaper : ℕ) : Type 0 where
    pub high : High (entry est)
    pub costs : Costs (lagging P (entry est) P.gap) now 64
    pub rests : Rests P (entry est) cheaper

  pub standing_first : (none est start costs : List ℕ) (cheaper : ℕ) → ((i : ℕ) → i < P.count → P.release i ≤ 65535) → ((i : ℕ) → i < P.count → entry none i ≡ 65535) → NextRound P (λ _. 65535) est P.count
      → Costs (λ p. cond (has P.opening p) 0 65535) start 64 → Cheaper P (entry est) (entry none) P.gap P.count start costs cheaper → Standing est costs cheaper
  standing_first none est start costs cheaper late never is begins c = record {
    high = high_next (λ _. 65535) (entry est) (λ i l. omega (arith, dearest_cap P (λ _. 65535) i, late i l)) is;
    costs = new;
    rests = rests_next (λ _. 65535) (entry est) start costs cheaper (unreached_costs P (λ _. 65535) P.gap start (λ i l. refl) begins) new c.falls c.cheaper is;
  }
    where
      new : Costs (lagging P (entry est) P.gap) costs 64
      new = reached_costs P (entry none) (entry est) P.gap start costs cheaper never c

  module _ (est costs next new : List ℕ) (w r : ℕ) (s : Standing est costs w) (d : AfterRound P est costs next new r) where
    costs_next : Costs (lagging P (entry next) P.gap) new 64
    costs_next p m = d.costs.costs p m
        ∙ amid_all P (λ i. dearest P (entry est) i 64) (entry est) P.gap p (cheapest_mono P (λ i. dearest P (entry est) i 64) (entry est) p P.count s.high)
        ∙ lagging_same (λ i. dearest P (entry est) i 64) (entry next) P.gap p (λ i l. sym (d.is i l))

    pub standing_next : Standing next new r
    standing_next = record {
      high = high_next (entry est) (entry next) s.high d.is;
      costs = costs_next;
      rests = rests_next (entry est) (entry next) costs new r s.costs costs_next d.costs.falls d.costs.cheaper d.is;
    }

    -- a round that changes no estimate makes no fact cheaper
    pub still : ((i : ℕ) → i < P.count → entry next i ≡ entry est i) → (v : ℕ) → T (due v r) → ⊥
    still e v t =
        let z = any_at (λ p. has v p && has r p) 64 t in
        let less : T (ltb (entry new z.0) (entry costs z.0)) = rw (d.costs.cheaper z.0 z.1) at (and_r (has v z.0) (has r z.0) z.2) in
        absurd (omega (arith, ltb→lt (entry new z.0) (entry costs z.0) less, costs_next z.0 z.1, s.costs z.0 z.1, lagging_same (entry next) (entry est) P.gap z.0 e))

    -- so the rounds end
    pub sum_less : (v : ℕ) → sum (entry next) P.count + cond (due v r) 1 0 < sum (entry est) P.count + 1
    sum_less v = ⊎_elim (λ e. omega (arith, cond_no (due v r) 1 0 (still e v), same_sum e)) (λ l. omega (arith, at_most_1 (due v r))) falls
      where
        falls : ((i : ℕ) → i < P.count → entry next i ≡ entry est i) ⊎ (sum (entry next) P.count < sum (entry est) P.count)
        falls = sum_falls (entry next) (entry est) P.count (λ j l. rw (d.is j l) (s.high j l))

        same_sum : ((i : ℕ) → i < P.count → entry next i ≡ entry est i) → sum (entry next) P.count ≤ sum (entry est) P.count
        same_sum e = sum_le (entry next) (entry est) P.count (λ i l. omega (arith, e i l))

  -- where no job is left to look at, the estimates are the solution
  pub solved : (est : ℕ → ℕ) (needed cheaper : ℕ) → Rests P est cheaper → Word (λ p. any (λ i. has (P.conditions i) p) P.count) needed → (T (due needed cheaper) → ⊥) → Estimates P est
  solved est needed cheaper s w n i l = s i l (λ t. let z = any_at (λ p. has (P.conditions i) p && has cheaper p) 64 t in n (met z.0 z.1 z.2))
    where
      met : (p : ℕ) → p < 64 → T (has (P.conditions i) p && has cheaper p) → T (due needed cheaper)
      met p m t = any_of (λ q. has needed q && has cheaper q) 64 p m (and_of (has needed p) (has cheaper p)
          (rw (w p) (any_of (λ j. has (P.conditions j) p) P.count i l (and_l (has (P.conditions i) p) (has cheaper p) t))) (and_r (has (P.conditions i) p) (has cheaper p) t))
