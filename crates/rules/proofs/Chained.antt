-- Each job of settled starts has one chain of reasons, and what the chain says place by place.
-- Assumes nothing.
use mathlib.Core.Path.{◌≡◌, refl, sym, ap, ◌∙◌, subst}
use mathlib.Core.Logic.{◌⊎◌, inl, inr, ◌≢◌}
use mathlib.Core.List.{List, [], ◌∷◌, ◌++◌}
use Prim.Native.Nat.{ℕ, zero, suc, ◌+◌, ◌≤◌, ◌<◌}
use native.Mathlib.Omega.{arith}
use native.Mathlib.Decide.{ℕ_discrete}
use lib.Dec.{T, eqb→eq}
use lib.ListN.{length, get_or, length-append, get_or-append}
use lib.Seq.{get_or-append_seam}
use Rattle.facts.specs.Least.{least, any}
use Rattle.facts.proofs.Bools.{and_l, and_r, and_of, eqb_of, below_suc}
use Rattle.facts.proofs.Least.{lowest, any_of, least_hit, least_same, any_same, found}
use Rattle.refusals.specs.Refusals.{Verdict}
use Rattle.rules.specs.Table.{Problem}
use Rattle.rules.specs.Premises.{InOrder}
use Rattle.rules.specs.Plans.{Plan, finish}
use Rattle.rules.specs.Settling.{Asked, Settled}
use Rattle.rules.specs.Reasons.{fits_before, Chain, released, pushed, Explained, unsettled, outside, explained}
use Rattle.rules.specs.Sums.{sum}
use Rattle.rules.proofs.Sums.{under, under_le, under_self, under_in, under_mono, sum_le, sum_more, sum_of}
use Rattle.rules.proofs.Settle.{Closed, settled_tight, settled_only}

module _ (P : Problem) (q : Asked) (z : Plan) where
  -- the lowest job that fits before job j
  abbrev pub before : ℕ → ℕ
  before j = least (λ a. fits_before P q z a j) P.count

  -- what is so of a job that fits
  pub fits_pair : (a j : ℕ) → T (fits_before P q z a j) → T (q.pair a j)
  fits_pair a j x = and_l (q.pair a j) _ x

  pub fits_start : (a j : ℕ) → T (fits_before P q z a j) → z j ≡ finish P z a + P.gap
  fits_start a j x = eqb→eq (z j) (finish P z a + P.gap) (and_r (q.pair a j) _ x)

  -- ── one chain at most ──

  pub chain_only : {j : ℕ} {l m : List ℕ} → Chain P q z j l → Chain P q z j m → l ≡ m
  chain_only (released e) (released f) = refl
  chain_only (released e) (pushed n t r) = absurd (n e)
  chain_only (pushed n t r) (released e) = absurd (n e)
  chain_only (pushed {j = j} n t r) (pushed o u s) = ap (λ (l : List ℕ). l ++ (j ∷ [])) (chain_only r s)

  -- ── and one for each job of the set ──

  -- a job of the set that is not at its release has a job before it, of the set and earlier
  module _ (ok : InOrder P) (closed : Closed P q) (f : Settled P q z) (j : ℕ) (l : j < P.count) (t : T (q.set j)) (n : z j ≢ q.from j) where
    pub some_before : T (any (λ a. fits_before P q z a j) P.count)
    some_before = go (settled_tight P q closed z f j l t)
      where
        go : (z j ≡ q.from j) ⊎ ((a : ℕ) × (a < P.count) × T (q.pair a j) × (z j ≡ finish P z a + P.gap)) → T (any (λ a. fits_before P q z a j) P.count)
        go (inl e) = absurd (n e)
        go (inr (a, m, p, w)) = any_of (λ a. fits_before P q z a j) P.count a m (and_of (q.pair a j) _ p (eqb_of w))

    pub before_in : (before j < P.count) × T (q.set (before j)) × (z (before j) < z j)
    before_in =
        let h = least_hit (λ a. fits_before P q z a j) P.count some_before in
        (h.0, (closed (before j) j h.0 l (fits_pair (before j) j h.1)).0, omega (arith, fits_start (before j) j h.1, ok.long (before j) h.0))

  pub chain_exists : InOrder P → Closed P q → Settled P q z → (j : ℕ) → j < P.count → T (q.set j) → (l : List ℕ) × Chain P q z j l
  chain_exists ok closed f j l t = go (suc (z j)) j l t (omega arith)
    where
      go : (k j : ℕ) → j < P.count → T (q.set j) → z j < k → (l : List ℕ) × Chain P q z j l
      go zero j l t h = absurd (omega arith)
      go (suc k) j l t h = pick (ℕ_discrete (z j) (q.from j)) (λ n. (let b = before_in ok closed f j l t n in go k (before j) b.0 b.1 (omega (arith, b.2))))
        where
          pick : Dec (z j ≡ q.from j) → (z j ≢ q.from j → (l : List ℕ) × Chain P q z (before j) l) → (l : List ℕ) × Chain P q z j l
          pick (yes e) c = (j ∷ [], released e)
          pick (no n) c = let r = c n in (r.0 ++ (j ∷ []), pushed n (some_before ok closed f j l t n) r.1)

  -- ── no chain has more jobs than the table ──

  -- how many jobs start by t
  abbrev begun : ℕ → ℕ
  begun t = sum (under z (λ a. 1) (suc t)) P.count

  begun_more : (t u j : ℕ) → t ≤ u → t ≤ z j → z j < suc u → j < P.count → sum (under z (λ a. 1) t) P.count + 1 ≤ begun u
  begun_more t u j h a b m =
      sum_more (under z (λ a. 1) t) (under z (λ a. 1) (suc u)) P.count j 1 (λ a b. under_mono z (λ a. 1) t (suc u) a (omega arith)) m
      (omega (arith, under_self z (λ a. 1) t j a, under_in z (λ a. 1) (suc u) j b))

  chain_by : InOrder P → {j : ℕ} {l : List ℕ} → Chain P q z j l → j < P.count → length l ≤ begun (z j)
  chain_by ok (released {j = j} e) m = omega (arith, begun_more (z j) (z j) j (omega arith) (omega arith) (omega arith) m)
  chain_by ok (pushed {j = j} {l = l} n t r) m =
      let h = least_hit (λ a. fits_before P q z a j) P.count t in
      let e : z (before j) < z j = omega (arith, fits_start (before j) j h.1, ok.long (before j) h.0) in
      omega (arith, length-append l (j ∷ []), chain_by ok r h.0, begun_more (suc (z (before j))) (z j) j (omega arith) e (omega arith) m)

  pub chain_count : InOrder P → {j : ℕ} {l : List ℕ} → Chain P q z j l → j < P.count → length l ≤ P.count
  chain_count ok {j} r m =
      omega (arith, chain_by ok r m, sum_le (under z (λ a. 1) (suc (z j))) (λ a. 1) P.count (λ a l. under_le z (λ a. 1) (suc (z j)) a), sum_of 1 P.count)

  -- ── what a chain says, place by place ──

  -- a job that is not at its release, and the lowest that fits before it
  record Step (a j : ℕ) : Type 0 where
    late : z j ≢ q.from j
    some : T (any (λ a. fits_before P q z a j) P.count)
    is : a ≡ before j

  -- the places of a chain, each step as the rule names it
  record Placed (j : ℕ) (l : List ℕ) : Type 0 where
    some : 1 ≤ length l
    first : z (get_or l 0 0) ≡ q.from (get_or l 0 0)
    steps : (k : ℕ) → suc k < length l → Step (get_or l k 0) (get_or l (suc k) 0)
    last : (k : ℕ) → suc k ≡ length l → get_or l k 0 ≡ j

  -- a list, and behind it one job more
  module _ (j : ℕ) (l : List ℕ) where
    len : length (l ++ (j ∷ [])) ≡ length l + 1
    len = length-append l (j ∷ [])

    at_old : (k : ℕ) → k < length l → get_or (l ++ (j ∷ [])) k 0 ≡ get_or l k 0
    at_old k h = get_or-append l (j ∷ []) 0 k h

    at_new : (k : ℕ) → k ≡ length l → get_or (l ++ (j ∷ [])) k 0 ≡ j
    at_new k e = rw e (get_or-append_seam l j [] 0)

    placed_more : (a : ℕ) → Placed a l → Step a j → Placed j (l ++ (j ∷ []))
    placed_more a h n = record {
      some = omega (arith, len);
      first = rw (at_old 0 h.some) h.first;
      steps = λ k m. steps k (below_suc (suc k) (length l) (omega (arith, len)));
      last = λ k m. at_new k (omega (arith, len));
    }
      where
        steps : (k : ℕ) → (suc k < length l) ⊎ (suc k ≡ length l) → Step (get_or (l ++ (j ∷ [])) k 0) (get_or (l ++ (j ∷ [])) (suc k) 0)
        steps k (inl o) = rw (at_old k (omega arith), at_old (suc k) o) (h.steps k o)
        steps k (inr o) = rw (at_old k (omega arith), at_new (suc k) o, h.last k o) n

    -- and one job less
    module _ (i k : ℕ) (e : suc k ≡ length l) (p : Placed i (l ++ (j ∷ []))) where
      last_is : j ≡ i
      last_is = sym (at_new (length l) refl) ∙ p.last (length l) (omega (arith, len))

      last_step : Step (get_or l k 0) j
      last_step = rw (at_old k (omega arith), at_new (suc k) e) at (p.steps k (omega (arith, len)))

      placed_less : Placed (get_or l k 0) l
      placed_less = record {
        some = omega arith;
        first = rw (at_old 0 (omega arith)) at p.first;
        steps = λ n h. rw (at_old n (omega arith), at_old (suc n) h) at (p.steps n (omega (arith, len)));
        last = λ n h. ap (λ (m : ℕ). get_or l m 0) (omega arith);
      }

  chain_placed : {j : ℕ} {l : List ℕ} → Chain P q z j l → Placed j l
  chain_placed (released {j = j} e) = record {
    some = omega arith;
    first = e;
    steps = λ k h. absurd (omega arith);
    last = λ k h. let w : k ≡ 0 = omega arith in rw w;
  }
  chain_placed (pushed {j = j} {l = l} n t r) = placed_more j l (before j) (chain_placed r) (record { late = n; some = t; is = refl })

  -- every list but the empty one has a last job
  snoc : (l : List ℕ) → 1 ≤ length l → (m : List ℕ) × (x : ℕ) × (l ≡ m ++ (x ∷ []))
  snoc [] h = absurd (omega arith)
  snoc (x ∷ []) h = ([], x, refl)
  snoc (x ∷ y ∷ l) h = let r = snoc (y ∷ l) (omega arith) in (x ∷ r.0, r.1, ap (λ (m : List ℕ). x ∷ m) r.2)

  placed_chain : (n j : ℕ) (l : List ℕ) → length l < n → Placed j l → Chain P q z j l
  placed_chain zero j l h p = absurd (omega arith)
  placed_chain (suc n) j l h p = go (snoc l p.some) (placed_chain n)
    where
      go : (m : List ℕ) × (x : ℕ) × (l ≡ m ++ (x ∷ [])) → ((i : ℕ) (m : List ℕ) → length m < n → Placed i m → Chain P q z i m) → Chain P q z j l
      go ([], x, e) c =
          let w : Placed j (x ∷ []) = subst (Placed j) e p in
          subst (Chain P q z j) (sym e) (subst (λ (i : ℕ). Chain P q z i (x ∷ [])) (w.last 0 refl) (released w.first))
      go (y ∷ m, x, e) c =
          let w : Placed j ((y ∷ m) ++ (x ∷ [])) = subst (Placed j) e p in
          let s = last_step x (y ∷ m) j (length m) refl w in
          let f : Chain P q z (before x) (y ∷ m) = subst (λ (i : ℕ). Chain P q z i (y ∷ m)) s.is (c _ (y ∷ m) (omega (arith, ap length e, len x (y ∷ m))) (placed_less x (y ∷ m) j (length m) refl w)) in
          subst (Chain P q z j) (sym e) (subst (λ (i : ℕ). Chain P q z i ((y ∷ m) ++ (x ∷ []))) (last_is x (y ∷ m) j (length m) refl w) (pushed s.late s.some f))

  -- the first job is at its release and no other is; each next one starts where the one before has finished, with the gap, along an asked pair, and no lower job does so; the last is the job
  pub record PlaceByPlace (j : ℕ) (l : List ℕ) : Type 0 where
    pub some : 1 ≤ length l
    pub first : z (get_or l 0 0) ≡ q.from (get_or l 0 0)
    pub late : (k : ℕ) → suc k < length l → z (get_or l (suc k) 0) ≢ q.from (get_or l (suc k) 0)
    pub below : (k : ℕ) → suc k < length l → get_or l k 0 < P.count
    pub pair : (k : ℕ) → suc k < length l → T (q.pair (get_or l k 0) (get_or l (suc k) 0))
    pub start : (k : ℕ) → suc k < length l → z (get_or l (suc k) 0) ≡ finish P z (get_or l k 0) + P.gap
    pub lowest : (k : ℕ) → suc k < length l → (a : ℕ) → a < get_or l k 0 → T (q.pair a (get_or l (suc k) 0)) → z (get_or l (suc k) 0) ≢ finish P z a + P.gap
    pub last : (k : ℕ) → suc k ≡ length l → get_or l k 0 ≡ j

  pub chain_places : {j : ℕ} {l : List ℕ} → Chain P q z j l → PlaceByPlace j l
  chain_places {j} {l} c = record {
    some = p.some;
    first = p.first;
    late = λ k h. (p.steps k h).late;
    below = λ k h. (hit k h).0;
    pair = λ k h. fits_pair (get_or l k 0) (get_or l (suc k) 0) (hit k h).1;
    start = λ k h. fits_start (get_or l k 0) (get_or l (suc k) 0) (hit k h).1;
    lowest = λ k h a b t e. (let s = p.steps k h in
        (lowest (λ a. fits_before P q z a (get_or l (suc k) 0)) P.count).first a (omega (arith, s.is)) (and_of (q.pair a (get_or l (suc k) 0)) _ t (eqb_of e)));
    last = p.last;
  }
    where
      p : Placed j l
      p = chain_placed c

      hit : (k : ℕ) → suc k < length l → (get_or l k 0 < P.count) × T (fits_before P q z (get_or l k 0) (get_or l (suc k) 0))
      hit k h = let s = p.steps k h in
          subst (λ (a : ℕ). (a < P.count) × T (fits_before P q z a (get_or l (suc k) 0))) (sym s.is) (least_hit (λ a. fits_before P q z a (get_or l (suc k) 0)) P.count s.some)

  -- a list of jobs of which all that is so is the chain
  pub places_chain : {j : ℕ} {l : List ℕ} → PlaceByPlace j l → Chain P q z j l
  places_chain {j} {l} s = placed_chain (suc (length l)) j l (omega arith) (record { some = s.some; first = s.first; steps = steps; last = s.last })
    where
      steps : (k : ℕ) → suc k < length l → Step (get_or l k 0) (get_or l (suc k) 0)
      steps k h =
          let f : T (fits_before P q z (get_or l k 0) (get_or l (suc k) 0)) = and_of (q.pair (get_or l k 0) (get_or l (suc k) 0)) _ (s.pair k h) (eqb_of (s.start k h)) in
          record {
            late = s.late k h;
            some = any_of (λ a. fits_before P q z a (get_or l (suc k) 0)) P.count (get_or l k 0) (s.below k h) f;
            is = found (λ a. fits_before P q z a (get_or l (suc k) 0)) P.count (get_or l k 0) (s.below k h) f
                (λ a b t. s.lowest k h a b (fits_pair a (get_or l (suc k) 0) t) (fits_start a (get_or l (suc k) 0) t));
          }

-- ── one chain, whichever the settled starts are ──

-- starts that are the same have the same chains
pub chain_same : (P : Problem) (q : Asked) (z y : Plan) → ((i : ℕ) → i < P.count → z i ≡ y i) → {j : ℕ} {l : List ℕ} → j < P.count → Chain P q z j l → Chain P q y j l
chain_same P q z y same m (released {j = j} e) = released (sym (same j m) ∙ e)
chain_same P q z y same m (pushed {j = j} {l = l} n t r) = pushed (λ e. n (same j m ∙ e)) (subst T (any_same _ _ P.count fits) t)
    (subst (λ (i : ℕ). Chain P q y i l) (least_same _ _ P.count fits) (chain_same P q z y same (least_hit (λ a. fits_before P q z a j) P.count t).0 r))
  where
    fits : (a : ℕ) → a < P.count → fits_before P q z a j ≡ fits_before P q y a j
    fits a l = rw (same a l, same j m)

module _ (P : Problem) (q : Asked) (j : ℕ) (inside : T (q.set j) → j < P.count) where
  -- two answers say the same, and where they accept give the same chain
  pub explained_only : {v w : Verdict} {l m : List ℕ} → Explained P q j v l → Explained P q j w m → (v ≡ w) × (v.number ≡ 0 → l ≡ m)
  explained_only (unsettled n) (unsettled o) = (refl, λ e. absurd (omega arith))
  explained_only (unsettled n) (outside {z = z} f o) = absurd (n z f.keeps)
  explained_only (unsettled n) (explained {z = z} f t c) = absurd (n z f.keeps)
  explained_only (outside {z = z} f o) (unsettled n) = absurd (n z f.keeps)
  explained_only (outside f o) (outside g n) = (refl, λ e. absurd (omega arith))
  explained_only (outside f o) (explained g t c) = absurd (o t)
  explained_only (explained {z = z} f t c) (unsettled n) = absurd (n z f.keeps)
  explained_only (explained f t c) (outside g o) = absurd (o t)
  explained_only (explained {z = z} f t c) (explained {z = y} g u d) = (refl, λ e. chain_only P q y (chain_same P q z y (settled_only P q z y f g) (inside t) c) d)
