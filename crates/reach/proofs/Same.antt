-- The problem whose jobs delete what they e-delete has the same valid plans.
-- Assumes nothing.
use mathlib.Core.Path.{sym}
use mathlib.Core.Logic.{◌⊎◌, inl, inr, ◌≢◌, ◌↔◌, ⊎_swap}
use mathlib.Core.Bool.{Bool}
use Prim.Native.Nat.{ℕ, zero, suc, ◌≤◌, ◌<◌}
use native.Mathlib.Omega.{arith}
use lib.Dec.{T}
use Rattle.facts.specs.Facts.{has}
use Rattle.rules.specs.Table.{Problem, needs}
use Rattle.rules.specs.Premises.{InOrder, adds, deletes}
use Rattle.rules.specs.Clashes.{interfere}
use Rattle.rules.specs.Plans.{Plan, In, Over, Apart, ends, finishes, holds, Valid}
use Rattle.rules.proofs.Time.{if_keep, if_add, if_cause}
use Rattle.rules.proofs.Clashing.{Spoils, interfere_at, clash, flip, given}
use Rattle.reach.specs.Reach.{PairSet, Closed, Exact, EDeletes, outright, by_adding, by_needing, Takes, strong, EWords}
use Rattle.reach.proofs.Rounds.{small}
use Rattle.reach.proofs.States.{mid, kept, states, mids}
use Rattle.reach.proofs.EDeletes.{harms, around_user, around_adder}

module _ (P : Problem) (ok : InOrder P) (S : PairSet) (x : Exact P S) where
  -- what a job takes away it does not add
  pure : (i p : ℕ) → i < P.count → adds P i p → Takes P S i p → ⊥
  pure i p l a (inl h) = ok.pure i p l a h
  pure i p l a (inr (f, h, outright y)) = ok.pure i p l a y
  pure i p l a (inr (f, h, by_adding q y n)) = n (x.closed.both i q p l f y a)
  pure i p l a (inr (f, h, by_needing r y n m)) = m a

  low : (i p : ℕ) → i < P.count → Takes P S i p → p < 64
  low i p l (inl h) = ok.deleted i l p h
  low i p l (inr (f, h, y)) = (small P ok p p (x.least p p h)).0

module _ (P : Problem) (ok : InOrder P) (S : PairSet) (x : Exact P S) (D : ℕ → ℕ) (w : EWords P S D) where
  abbrev K : Problem
  K = strong P D

  pub strong_ok : InOrder K
  strong_ok = record {
    long = ok.long;
    pure = λ i p l a h. pure P ok S x i p l a ((w i p l).0 h);
    needed = ok.needed;
    added = ok.added;
    deleted = λ i l p h. low P ok S x i p l ((w i p l).0 h);
    opened = ok.opened;
    wanted = ok.wanted;
  }

  -- it takes away what it deletes, and only what it e-deletes
  more : (i p : ℕ) → i < P.count → deletes P i p → T (has (D i) p)
  more i p l h = (w i p l).1 (inl h)

  only : (i p : ℕ) → i < P.count → T (has (D i) p) → EDeletes P S i p
  only i p l h = go ((w i p l).0 h)
    where
      go : Takes P S i p → EDeletes P S i p
      go (inl y) = outright y
      go (inr (f, h, y)) = y

  module _ (s : Plan) where
    to : (i : ℕ) → In P s i → In K s i
    to i k = record { below = k.below; chosen = k.chosen }

    of : (i : ℕ) → In K s i → In P s i
    of i k = record { below = k.below; chosen = k.chosen }

    -- ── fewer deletions, more facts ──

    fin_more : (p t k : ℕ) (b d : Bool) → k ≤ P.count → (T d → T b) → T (finishes K s p t k d) → T (finishes P s p t k b)
    unfolding finishes ends
    fin_more p t zero b d l f h = f h
    fin_more p t (suc k) b d l f h = go (if_cause _ _ _ _ h) (fin_more p t k b d (omega arith) f)
      where
        go : (T (finishes K s p t k d) × (T (ends P s k t) → T (has (D k) p) → ⊥)) ⊎ (T (ends P s k t) × adds P k p) → (T (finishes K s p t k d) → T (finishes P s p t k b)) → T (finishes P s p t (suc k) b)
        go (inl (x, q)) r = if_keep _ _ _ _ (r x) (λ e y. q e (more k p (omega arith) y))
        go (inr (e, a)) r = if_add _ _ _ _ e a

    pub holds_more : (p t : ℕ) → T (holds K s p t) → T (holds P s p t)
    unfolding holds
    holds_more p zero h = h
    holds_more p (suc t) h = fin_more p (suc t) P.count _ _ (omega arith) (holds_more p t) h

    as_strong : (i j : ℕ) → In P s i → In P s j → T (interfere P i j) → T (interfere K i j)
    as_strong i j a b x = go (interfere_at P i j x)
      where
        spoilt : (i j : ℕ) → i < P.count → i ≢ j → Spoils P i j → T (interfere K i j)
        spoilt i j l ne y = clash K strong_ok i j y.fact l ne (more i y.fact l y.gone) y.wanted

        go : (i ≢ j) × (Spoils P i j ⊎ Spoils P j i) → T (interfere K i j)
        go (ne, inl y) = spoilt i j a.below ne y
        go (ne, inr y) = flip K j i (spoilt j i b.below (λ e. ne (sym e)) y)

    pub weaken : (bound : ℕ) → Valid K bound s → Valid P bound s
    weaken bound v = record {
      inside = λ i k. v.inside i (to i k);
      released = λ i k. v.released i (to i k);
      apart = λ i j k m x. v.apart i j (to i k) (to j m) (as_strong i j k m x);
      ready = λ i p k n. holds_more p _ (v.ready i p (to i k) n);
      reached = λ p g. holds_more p bound (v.reached p g);
    }

    -- ── what is e-deleted does not hold ──

    module _ (bound : ℕ) (v : Valid P bound s) where
      abbrev c : Closed P S
      c = x.closed

      fin_same : (p t k : ℕ) → k ≤ P.count → (T (holds P s p t) → T (holds K s p t)) → T (mid P ok bound s v S c t k p) → T (finishes K s p (suc t) k (holds K s p t))
      unfolding finishes ends
      fin_same p t zero l f h = f h
      fin_same p t (suc k) l f h = go (if_cause _ _ _ _ h) (fin_same p t k (omega arith) f)
        where
          apart_from : T (mid P ok bound s v S c t k p) → (T (ends P s k (suc t)) → deletes P k p → ⊥) → T (ends P s k (suc t)) → EDeletes P S k p → ⊥
          apart_from x q e (outright y) = q e y
          apart_from x q e (by_adding r y n) = n (mids P ok bound s v S c t (suc k) l r p (if_add _ _ _ _ e y) h)
          apart_from x q e (by_needing r y n m) = n (mids P ok bound s v S c t k (omega arith) r p (kept P ok bound s v S c t k (omega arith) e r y) x)

          go : (T (mid P ok bound s v S c t k p) × (T (ends P s k (suc t)) → deletes P k p → ⊥)) ⊎ (T (ends P s k (suc t)) × adds P k p)
              → (T (mid P ok bound s v S c t k p) → T (finishes K s p (suc t) k (holds K s p t))) → T (finishes K s p (suc t) (suc k) (holds K s p t))
          go (inl (x, q)) r = if_keep _ _ _ _ (r x) (λ e y. apart_from x q e (only k p (omega arith) y))
          go (inr (e, a)) r = if_add _ _ _ _ e a

      pub holds_same : (p t : ℕ) → T (holds P s p t) → T (holds K s p t)
      unfolding holds
      holds_same p zero h = h
      holds_same p (suc t) h = fin_same p t P.count (omega arith) (holds_same p t) h

      -- a job that e-deletes a condition or an addition of another does not overlap it
      keeps_off : (i j : ℕ) → In P s i → In P s j → i ≢ j → Spoils K i j → Over P s i j ⊎ Over P s j i
      keeps_off i j a b ne y = go y.wanted (only i y.fact a.below y.gone)
        where
          go : needs P j y.fact ⊎ adds P j y.fact → EDeletes P S i y.fact → Over P s i j ⊎ Over P s j i
          go (inl n) x =
              let h = v.ready j y.fact b n in
              around_user P ok bound s v S c i j y.fact a b ne n (harms P ok bound s v S c i y.fact a (states P ok bound s v S c _ y.fact y.fact h h) x)
          go (inr n) x =
              let h = given P ok s v.apart y.fact j b n in
              around_adder P ok bound s v S c i j y.fact a b ne n (harms P ok bound s v S c i y.fact a (states P ok bound s v S c _ y.fact y.fact h h) x)

      apart : Apart K s
      apart i j a b x = go (interfere_at K i j x)
        where
          go : (i ≢ j) × (Spoils K i j ⊎ Spoils K j i) → Over K s i j ⊎ Over K s j i
          go (ne, inl y) = keeps_off i j (of i a) (of j b) ne y
          go (ne, inr y) = ⊎_swap (keeps_off j i (of j b) (of i a) (λ e. ne (sym e)) y)

      pub strengthen : Valid K bound s
      strengthen = record {
        inside = λ i k. v.inside i (of i k);
        released = λ i k. v.released i (of i k);
        apart = apart;
        ready = λ i p k n. holds_same p _ (v.ready i p (of i k) n);
        reached = λ p g. holds_same p bound (v.reached p g);
      }

  -- the two have the same valid plans
  pub same_valid : (bound : ℕ) (s : Plan) → Valid P bound s ↔ Valid K bound s
  same_valid bound s = (strengthen s bound, weaken s bound)
