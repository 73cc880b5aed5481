-- No state of a valid plan holds an unreachable pair.
-- Assumes nothing.
use mathlib.Core.Path.{◌≡◌, refl}
use mathlib.Core.Logic.{◌⊎◌, inl, inr}
use mathlib.Core.Bool.{Bool}
use Prim.Native.Nat.{ℕ, zero, suc, ◌-◌, ◌≤◌, ◌<◌}
use native.Mathlib.Omega.{arith}
use lib.Dec.{T}
use Rattle.rules.specs.Table.{Problem, needs}
use Rattle.rules.specs.Premises.{InOrder, adds, deletes}
use Rattle.rules.specs.Plans.{Plan, In, finish, Over, ends, finishes, holds, Valid}
use Rattle.rules.proofs.Time.{if_cause, ends_in, ends_at, Still, keep, Quiet, persists}
use Rattle.rules.proofs.Clashing.{ordered}
use Rattle.reach.specs.Reach.{PairSet, Fit, Closed, Reachable}

module _ (P : Problem) (ok : InOrder P) (bound : ℕ) (s : Plan) (v : Valid P bound s) where
  -- a condition holds from where its job sees it until the job finishes
  pub runs : (i r t : ℕ) → In P s i → needs P i r → s i - P.gap ≤ t → t < finish P s i → T (holds P s r t)
  runs i r t k n a b = persists P s r (s i - P.gap) t (omega arith) quiet (v.ready i r k n)
    where
      quiet : Quiet P s r (s i - P.gap) t
      quiet d j x e f = go (ordered P ok s v.apart d i r j k (λ h. same h) x (inl n))
        where
          same : d ≡ i → ⊥
          same h = let g : finish P s d ≡ finish P s i = rw h refl in omega arith

          go : Over P s d i ⊎ Over P s i d → ⊥
          go (inl o) = omega arith
          go (inr o) = omega (arith, ok.long d j.below)

  module _ (S : PairSet) (c : Closed P S) where
    -- all pairs that hold in a state are in the set
    abbrev pub Good : (ℕ → Bool) → Type 0
    Good h = (p q : ℕ) → T (h p) → T (h q) → T (S p q)

    -- the state in the middle of the finishes at a time: those of the jobs below k are done
    abbrev pub mid : (t k : ℕ) → ℕ → Bool
    mid t k p = finishes P s p (suc t) k (holds P s p t)

    module _ (t k : ℕ) (l : k < P.count) (e : T (ends P s k (suc t))) where
      there : In P s k
      there = record { below = l; chosen = ends_in P s k (suc t) e }

      -- its conditions hold until it finishes
      pub kept : (r : ℕ) → needs P k r → T (mid t k r)
      kept r n = keep P s r (suc t) k _ (runs k r t there n (omega (arith, at, ok.long k l)) (omega (arith, at))) still
        where
          at : finish P s k ≡ suc t
          at = ends_at P s k (suc t) e

          still : Still P s r (suc t) k
          still i m f x = go (ordered P ok s v.apart i k r j there (λ h. omega arith) x (inl n))
            where
              j : In P s i
              j = record { below = omega arith; chosen = ends_in P s i (suc t) f }

              by : finish P s i ≡ suc t
              by = ends_at P s i (suc t) f

              go : Over P s i k ⊎ Over P s k i → ⊥
              go (inl o) = omega (arith, at, by, ok.long k l)
              go (inr o) = omega (arith, at, by, ok.long i j.below)

      fit : Good (mid t k) → Fit P S k
      fit g r u m n = g r u (kept r m) (kept u n)

    -- one finish more
    one : (t k : ℕ) → k < P.count → Good (mid t k) → Good (mid t (suc k))
    unfolding finishes
    one t k l g p q x y = go (if_cause _ _ _ _ x) (if_cause _ _ _ _ y)
      where
        Was : ℕ → Type 0
        Was p = (T (mid t k p) × (T (ends P s k (suc t)) → deletes P k p → ⊥)) ⊎ (T (ends P s k (suc t)) × adds P k p)

        beside : (p q : ℕ) → T (ends P s k (suc t)) → adds P k p → T (mid t k q) → (deletes P k q → ⊥) → T (S p q)
        beside p q e a h n = c.beside k p q l (fit t k l e g) a n (g q q h h) (λ r m. g r q (kept t k l e r m) h)

        go : Was p → Was q → T (S p q)
        go (inl (h, m)) (inl (i, n)) = g p q h i
        go (inl (h, m)) (inr (e, b)) = c.swaps q p (beside q p e b h (m e))
        go (inr (e, a)) (inl (i, n)) = beside p q e a i (n e)
        go (inr (e, a)) (inr (f, b)) = c.both k p q l (fit t k l e g) a b

    -- all finishes of a time
    all : (t k : ℕ) → k ≤ P.count → Good (λ p. holds P s p t) → Good (mid t k)
    unfolding finishes
    all t zero l g = g
    all t (suc k) l g = one t k (omega arith) (all t k (omega arith) g)

    pub states : (t : ℕ) → Good (λ p. holds P s p t)
    unfolding holds
    states zero = λ p q x y. c.opens p q x y
    states (suc t) = all t P.count (omega arith) (states t)

    pub mids : (t k : ℕ) → k ≤ P.count → Good (mid t k)
    mids t k l = all t k l (states t)

  pub no_unreachable : (t p q : ℕ) → T (holds P s p t) → T (holds P s q t) → Reachable P p q
  no_unreachable t p q x y S c = states S c t p q x y
