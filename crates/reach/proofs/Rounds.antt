-- A round over the jobs, and rounds until nothing is found.
-- Assumes nothing.
use mathlib.Core.Path.{◌≡◌, subst}
use mathlib.Core.Logic.{◌⊎◌, inl, inr}
use mathlib.Core.Bool.{Bool, true, false, cond, ◌&&◌}
use mathlib.Core.List.{List}
use Prim.Native.Nat.{ℕ, ◌+◌, ◌≤◌, ◌<◌}
use native.Mathlib.Omega.{arith}
use lib.Dec.{T, ltb, lt→ltb, ltb→lt}
use lib.ListN.{length, get_or, replicate, length-replicate, get_or-replicate}
use Rattle.facts.specs.Facts.{has}
use Rattle.facts.specs.Words.{Covers}
use Rattle.facts.proofs.Bools.{and_l, and_r, and_of, below_suc}
use Rattle.facts.proofs.Sets.{has_zero}
use Rattle.rules.specs.Table.{Problem}
use Rattle.rules.specs.Premises.{InOrder, adds}
use Rattle.rules.proofs.Sums.{sum_le, sum_falls}
use Rattle.rules.specs.Sums.{sum}
use Rattle.reach.specs.Reach.{PairSet, Fit, Closed, Reachable, Exact}
use Rattle.reach.specs.Rows.{in_rows, FitIn, Seen, PairFound, Looked, Sym, AllReachable, Within, ClosedAt, PairRound}
use Rattle.reach.proofs.Laws.{in_range_lem}

-- the pairs of facts below 64
abbrev below64 : PairSet
below64 p q = ltb p 64 && ltb q 64

-- how many pairs are missing
abbrev lacks : List ℕ → ℕ → ℕ → ℕ
lacks rows p q = cond (has (get_or rows p 0) q) 0 1

abbrev pub missing : List ℕ → ℕ
missing rows = sum (λ p. sum (lacks rows p) 64) 64

-- every pair of the new rows is one of the old
abbrev pub Inside : List ℕ → List ℕ → Type 0
Inside new old = (p : ℕ) → p < 64 → Covers (get_or old p 0) (get_or new p 0)

module _ (P : Problem) where
  -- the opening facts are in the rows
  abbrev pub Opens : List ℕ → Type 0
  Opens rows = (p q : ℕ) → T (has P.opening p) → T (has P.opening q) → T (in_rows rows p q)

  -- what every round keeps
  pub record Kept (rows : List ℕ) : Type 0 where
    pub size : length rows ≡ 64
    pub sym : Sym rows
    pub sound : AllReachable P rows
    pub opens : Opens rows

module _ (P : Problem) (ok : InOrder P) where
  -- reachable facts are below 64
  pub small : (p q : ℕ) → Reachable P p q → (p < 64) × (q < 64)
  small p q h = let x = h below64 c in (ltb→lt p 64 (and_l (ltb p 64) _ x), ltb→lt q 64 (and_r (ltb p 64) _ x))
    where
      of : {p q : ℕ} → p < 64 → q < 64 → T (below64 p q)
      of {p} {q} l m = and_of (ltb p 64) _ (lt→ltb p 64 l) (lt→ltb q 64 m)

      c : Closed P below64
      c = record {
        swaps = λ p q h. of (ltb→lt q 64 (and_r (ltb p 64) _ h)) (ltb→lt p 64 (and_l (ltb p 64) _ h));
        opens = λ p q x y. of (ok.opened p x) (ok.opened q y);
        both = λ i p q l f x y. of (ok.added i l p x) (ok.added i l q y);
        beside = λ i p q l f x n h k. of (ok.added i l p x) (ltb→lt q 64 (and_r (ltb q 64) _ h));
      }

  -- ── one job ──

  module _ (i : ℕ) (l : i < P.count) (cur new : List ℕ) (size : length cur ≡ 64) (g : Looked cur (P.conditions i) (P.additions i) (P.deletions i) new) where
    abbrev Hit : ℕ → ℕ → Type 0
    Hit p q = PairFound cur (P.conditions i) (P.additions i) (P.deletions i) p q

    turned : (p q : ℕ) → Hit p q → (q < 64) × Hit q p
    turned p q h = go h.how
      where
        go : (T (has (P.additions i) p) × T (has (P.additions i) q)) ⊎ (T (has (P.additions i) p) × Seen (get_or cur q 0) (P.conditions i) (P.deletions i) q) ⊎ (T (has (P.additions i) q) × Seen (get_or cur p 0) (P.conditions i) (P.deletions i) p) → (q < 64) × Hit q p
        go (inl (x, y)) = (ok.added i l q y, record { fit = h.fit; how = inl (y, x) })
        go (inr (inl (x, y))) = (in_range_lem cur size q q y.itself, record { fit = h.fit; how = inr (inr (x, y)) })
        go (inr (inr (x, y))) = (ok.added i l q x, record { fit = h.fit; how = inr (inl (x, y)) })

    pub look_sym : Sym cur → Sym new
    look_sym y p q h = go (g.sound p q h)
      where
        go : T (in_rows cur p q) ⊎ Hit p q → T (in_rows new q p)
        go (inl x) = g.more q p (y p q x)
        go (inr x) = let z = turned p q x in g.whole q p z.0 z.1

    pub look_sound : AllReachable P cur → AllReachable P new
    look_sound y p q h S c = go (g.sound p q h)
      where
        fit : FitIn cur (P.conditions i) 64 → Fit P S i
        fit f r u m n = y r u (f r (ok.needed i l r m) m u n) S c

        beside : FitIn cur (P.conditions i) 64 → (p q : ℕ) → adds P i p → Seen (get_or cur q 0) (P.conditions i) (P.deletions i) q → T (S p q)
        beside f p q x z = c.beside i p q l (fit f) x z.stays (y q q z.itself S c) (λ r n. c.swaps q r (y q r (z.all r n) S c))

        hit : Hit p q → T (S p q)
        hit x = how x.how
          where
            how : (T (has (P.additions i) p) × T (has (P.additions i) q)) ⊎ (T (has (P.additions i) p) × Seen (get_or cur q 0) (P.conditions i) (P.deletions i) q) ⊎ (T (has (P.additions i) q) × Seen (get_or cur p 0) (P.conditions i) (P.deletions i) p) → T (S p q)
            how (inl (a, b)) = c.both i p q l (fit x.fit) a b
            how (inr (inl (a, b))) = beside x.fit p q a b
            how (inr (inr (a, b))) = c.swaps q p (beside x.fit q p a b)

        go : T (in_rows cur p q) ⊎ Hit p q → T (S p q)
        go (inl x) = y p q x S c
        go (inr x) = hit x

    -- where all that it finds was there, the rules hold of the job
    pub look_closes : (old : List ℕ) → Sym old → Within old cur → Within new old → ClosedAt P (in_rows old) i
    look_closes old y up down = record {
      both = λ p q f a b. down p q (g.whole p q (ok.added i l p a) (record { fit = fits f; how = inl (a, b) }));
      beside = λ p q f a n h k. down p q (g.whole p q (ok.added i l p a) (record { fit = fits f; how = inr (inl (a, record { stays = n; itself = up q q h; all = λ r m. up q r (y r q (k r m)) })) }));
    }
      where
        fits : Fit P (in_rows old) i → FitIn cur (P.conditions i) 64
        fits f r m n u o = up r u (f r u n o)

  -- ── a round ──

  pub round_none : (old : List ℕ) → length old ≡ 64 → PairRound P 0 old old
  round_none old e = record { size = e; more = λ p q h. h; sym = λ y. y; sound = λ y. y; closes = λ y w i l. absurd (omega arith) }

  pub round_more : (k : ℕ) (old cur new : List ℕ) → k < P.count → PairRound P k old cur → Looked cur (P.conditions k) (P.additions k) (P.deletions k) new → PairRound P (k + 1) old new
  round_more k old cur new l r g = record {
    size = g.size;
    more = λ p q h. g.more p q (r.more p q h);
    sym = λ y. look_sym k l cur new r.size g (r.sym y);
    sound = λ y. look_sound k l cur new r.size g (r.sound y);
    closes = λ y w i m. closes y w i (below_suc i k (omega arith));
  }
    where
      closes : Sym old → Within new old → (i : ℕ) → (i < k) ⊎ (i ≡ k) → ClosedAt P (in_rows old) i
      closes y w i (inl m) = r.closes y (λ p q h. w p q (g.more p q h)) i m
      closes y w i (inr m) = rw m (look_closes k l cur new r.size g old y r.more w)

  -- ── until nothing is found ──

  abbrev zeros : List ℕ
  zeros = replicate 64 0

  empty : (p q : ℕ) → T (in_rows zeros p q) → ⊥
  empty p q h = has_zero q (subst (λ (x : ℕ). T (has x q)) (get_or-replicate 64 p 0 0 (in_range_lem zeros (length-replicate {A = ℕ} 64 0) p q h)) h)

  pub kept_first : (rows : List ℕ) → Looked zeros 0 P.opening 0 rows → Kept P rows
  kept_first rows g = record { size = g.size; sym = turned; sound = λ p q h S c. found p q h (λ x y. c.opens p q x y); opens = λ p q x y. g.whole p q (ok.opened p x) (record { fit = λ r l h. absurd (has_zero r h); how = inl (x, y) }) }
    where
      found : (p q : ℕ) → T (in_rows rows p q) → {X : Type 0} → (T (has P.opening p) → T (has P.opening q) → X) → X
      found p q h {X} k = go (g.sound p q h)
        where
          how : (T (has P.opening p) × T (has P.opening q)) ⊎ (T (has P.opening p) × Seen (get_or zeros q 0) 0 0 q) ⊎ (T (has P.opening q) × Seen (get_or zeros p 0) 0 0 p) → X
          how (inl (x, y)) = k x y
          how (inr (inl (x, y))) = absurd (empty q q y.itself)
          how (inr (inr (x, y))) = absurd (empty p p y.itself)

          go : T (in_rows zeros p q) ⊎ PairFound zeros 0 P.opening 0 p q → X
          go (inl x) = absurd (empty p q x)
          go (inr x) = how x.how

      turned : Sym rows
      turned p q h = found p q h (λ x y. g.whole q p (ok.opened q y) (record { fit = λ r l z. absurd (has_zero r z); how = inl (y, x) }))

  pub kept_next : (n : ℕ) (old new : List ℕ) → Kept P old → PairRound P n old new → Kept P new
  kept_next n old new k r = record { size = r.size; sym = r.sym k.sym; sound = r.sound k.sound; opens = λ p q x y. r.more p q (k.opens p q x y) }

  lacks_le : (a b : Bool) → (T a → T b) → cond b 0 1 ≤ cond a 0 1
  lacks_le a true h = omega arith
  lacks_le true false h = absurd (h tt)
  lacks_le false false h = omega arith

  lacks_same : (a b : Bool) → ◌≡◌ {A = ℕ} (cond b 0 1) (cond a 0 1) → T b → T a
  lacks_same true b e h = tt
  lacks_same false true e h = absurd (omega (arith, e))
  lacks_same false false e h = h

  pub inside_all : (old new : List ℕ) → length new ≡ 64 → Inside new old → Within new old
  inside_all old new e h p q x = h p (in_range_lem new e p q x) q x

  -- where some pair is found, fewer are missing
  pub fewer : (n : ℕ) (old new : List ℕ) → Kept P old → PairRound P n old new → (Inside new old → ⊥) → missing new < missing old
  fewer n old new k r no_inside = go (sum_falls (λ p. sum (lacks new p) 64) (λ p. sum (lacks old p) 64) 64 (λ p l. sum_le (lacks new p) (lacks old p) 64 (λ q m. lacks_le (has (get_or old p 0) q) (has (get_or new p 0) q) (r.more p q))))
    where
      go : ((p : ℕ) → p < 64 → sum (lacks new p) 64 ≡ sum (lacks old p) 64) ⊎ (missing new < missing old) → missing new < missing old
      go (inr h) = h
      go (inl h) = absurd (no_inside (λ p l q x. row p q (sum_falls (lacks new p) (lacks old p) 64 (λ q m. lacks_le (has (get_or old p 0) q) (has (get_or new p 0) q) (r.more p q))) (h p l) x))
        where
          row : (p q : ℕ) → ((j : ℕ) → j < 64 → lacks new p j ≡ lacks old p j) ⊎ (sum (lacks new p) 64 < sum (lacks old p) 64) → sum (lacks new p) 64 ≡ sum (lacks old p) 64 → T (in_rows new p q) → T (in_rows old p q)
          row p q (inr m) e x = absurd (omega arith)
          row p q (inl m) e x = lacks_same (has (get_or old p 0) q) (has (get_or new p 0) q) (m q (small p q (r.sound k.sound p q x)).1) x

  pub exact : (old new : List ℕ) → Kept P old → PairRound P P.count old new → Inside new old → Exact P (in_rows old)
  exact old new k r w = record {
    closed = record {
      swaps = k.sym;
      opens = k.opens;
      both = λ i p q l f. (at i l).both p q f;
      beside = λ i p q l f. (at i l).beside p q f;
    };
    least = k.sound;
  }
    where
      at : (i : ℕ) → i < P.count → ClosedAt P (in_rows old) i
      at i l = r.closes k.sym (inside_all old new r.size w) i l
