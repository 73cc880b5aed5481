-- In a valid plan an e-deleter of a fact does not overlap a job that needs or adds the fact.
-- Assumes nothing.
use mathlib.Core.Path.{sym}
use mathlib.Core.Logic.{◌⊎◌, inl, inr, ◌≢◌, ⊎_swap}
use Prim.Native.Nat.{ℕ, ◌+◌, ◌-◌, ◌≤◌, ◌<◌}
use native.Mathlib.Decide.{dec_le}
use native.Mathlib.Omega.{arith}
use lib.Dec.{T}
use Rattle.facts.specs.Facts.{has}
use Rattle.facts.proofs.Bools.{T?}
use Rattle.facts.proofs.Sets.{one_fails}
use Rattle.rules.specs.Table.{Problem, needs}
use Rattle.rules.specs.Premises.{InOrder, adds, deletes}
use Rattle.rules.specs.Plans.{Plan, In, finish, Over, holds, Valid}
use Rattle.rules.proofs.Clashing.{ordered}
use Rattle.reach.specs.Reach.{PairSet, Fit, Closed, Exclude, EDeletes, outright, by_adding, by_needing}
use Rattle.reach.proofs.States.{runs, states}

module _ (P : Problem) (ok : InOrder P) (bound : ℕ) (s : Plan) (v : Valid P bound s) (S : PairSet) (c : Closed P S) where
  good : (t p q : ℕ) → T (holds P s p t) → T (holds P s q t) → T (S p q)
  good t = states P ok bound s v S c t

  -- ── jobs with conditions that exclude each other ──

  -- they do not overlap
  pub apart : (i j r u : ℕ) → In P s i → In P s j → needs P i r → needs P j u → Exclude S r u → Over P s i j ⊎ Over P s j i
  apart i j r u a b m n x = go (dec_le (finish P s i + P.gap) (s j)) (dec_le (finish P s j + P.gap) (s i))
    where
      clash : (t : ℕ) → s i - P.gap ≤ t → t < finish P s i → s j - P.gap ≤ t → t < finish P s j → ⊥
      clash t h k l e = x (good t r u (runs P ok bound s v i r t a m h k) (runs P ok bound s v j u t b n l e))

      both : Dec (s i ≤ s j) → (finish P s i + P.gap ≤ s j → ⊥) → (finish P s j + P.gap ≤ s i → ⊥) → ⊥
      both (yes h) y z = clash (s j - P.gap) (omega arith) (omega (arith, ok.long i a.below)) (omega arith) (omega (arith, ok.long j b.below))
      both (no h) y z = clash (s i - P.gap) (omega arith) (omega (arith, ok.long i a.below)) (omega arith) (omega (arith, ok.long j b.below))

      go : Dec (finish P s i + P.gap ≤ s j) → Dec (finish P s j + P.gap ≤ s i) → Over P s i j ⊎ Over P s j i
      go (yes h) k = inl h
      go (no h) (yes k) = inr k
      go (no h) (no k) = absurd (both (dec_le (s i) (s j)) h k)

  -- ── what an e-deleter does ──

  -- it deletes p, or has a condition that excludes p
  pub data Harms (d p : ℕ) : Type 0 where
    deleting : deletes P d p → Harms d p
    needing : (r : ℕ) → needs P d r → Exclude S r p → Harms d p

  -- the conditions of a job of the plan hold together
  pub fit : (i : ℕ) → In P s i → Fit P S i
  fit i a r u m n = good (s i - P.gap) r u (v.ready i r a m) (v.ready i u a n)

  -- of the conditions of job i one excludes p, or all are reachable with p
  abbrev OneOrNone : ℕ → ℕ → Type 0
  OneOrNone i p = ((r : ℕ) × needs P i r × Exclude S r p) ⊎ ((r : ℕ) → needs P i r → T (S r p))

  one_excludes : (i p : ℕ) → i < P.count → OneOrNone i p
  one_excludes i p l = one_fails (P.conditions i) (λ r. S r p) (ok.needed i l)

  -- a job that adds q deletes p or has a condition that excludes p, where q excludes p and p can hold
  adding : (d p q : ℕ) → In P s d → T (S p p) → adds P d q → Exclude S q p → Harms d p
  adding d p q a h y x = go (T? (has (P.deletions d) p)) (one_excludes d p a.below)
    where
      go : deletes P d p ⊎ (deletes P d p → ⊥) → OneOrNone d p → Harms d p
      go (inl z) w = deleting z
      go (inr z) (inl (r, n, e)) = needing r n e
      go (inr z) (inr w) = absurd (x (c.beside d q p a.below (fit d a) y z h w))

  pub harms : (d p : ℕ) → In P s d → T (S p p) → EDeletes P S d p → Harms d p
  harms d p a h (outright x) = deleting x
  harms d p a h (by_adding q y x) = adding d p q a h y x
  harms d p a h (by_needing r n x y) = needing r n x

  -- so it stands before or behind a job that needs p
  pub around_user : (d b p : ℕ) → In P s d → In P s b → d ≢ b → needs P b p → Harms d p → Over P s d b ⊎ Over P s b d
  around_user d b p i k ne n (deleting x) = ordered P ok s v.apart d b p i k ne x (inl n)
  around_user d b p i k ne n (needing r m x) = apart d b r p i k m n x

  -- and before or behind a job that adds p
  pub around_adder : (d a p : ℕ) → In P s d → In P s a → d ≢ a → adds P a p → Harms d p → Over P s d a ⊎ Over P s a d
  around_adder d a p i k ne y (deleting x) = ordered P ok s v.apart d a p i k ne x (inr y)
  around_adder d a p i k ne y (needing r m x) = go (T? (has (P.deletions a) r)) (one_excludes a r k.below)
    where
      seen : T (holds P s r (s d - P.gap))
      seen = v.ready d r i m

      go : deletes P a r ⊎ (deletes P a r → ⊥) → OneOrNone a r → Over P s d a ⊎ Over P s a d
      go (inl z) w = ⊎_swap (ordered P ok s v.apart a d r k i (λ e. ne (sym e)) z (inl m))
      go (inr z) (inl (u, n, e)) = ⊎_swap (apart a d u r k i n m e)
      go (inr z) (inr w) = absurd (x (c.swaps p r (c.beside a p r k.below (fit a k) y z (good (s d - P.gap) r r seen seen) w)))
