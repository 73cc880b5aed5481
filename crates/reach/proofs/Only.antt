-- The reachable pairs are one set, and they settle what each job takes away.
-- Assumes nothing.
use mathlib.Core.Path.{◌≡◌}
use mathlib.Core.Logic.{inl, inr}
use Prim.Native.Nat.{ℕ, ◌<◌}
use lib.Dec.{T}
use Rattle.facts.specs.Facts.{has}
use Rattle.facts.proofs.Bools.{same}
use Rattle.rules.specs.Table.{Problem}
use Rattle.reach.specs.Reach.{PairSet, Exact, EDeletes, outright, by_adding, by_needing, Takes, EWords}

module _ (P : Problem) where
  part : (S R : PairSet) → Exact P S → Exact P R → (p q : ℕ) → T (S p q) → T (R p q)
  part S R x y p q h = x.least p q h R y.closed

  pub exact_only : (S R : PairSet) → Exact P S → Exact P R → (p q : ℕ) → S p q ≡ R p q
  exact_only S R x y p q = same _ _ (part S R x y p q) (part R S y x p q)

  takes_part : (S R : PairSet) → Exact P S → Exact P R → (i p : ℕ) → Takes P S i p → Takes P R i p
  takes_part S R x y i p (inl h) = inl h
  takes_part S R x y i p (inr (f, h, e)) = inr (λ r u m n. part S R x y r u (f r u m n), part S R x y p p h, lost e)
    where
      lost : EDeletes P S i p → EDeletes P R i p
      lost (outright z) = outright z
      lost (by_adding q z n) = by_adding q z (λ k. n (part R S y x q p k))
      lost (by_needing q z n a) = by_needing q z (λ k. n (part R S y x q p k)) a

  pub words_only : (S R : PairSet) (D E : ℕ → ℕ) → Exact P S → Exact P R → EWords P S D → EWords P R E → (i p : ℕ) → i < P.count → has (D i) p ≡ has (E i) p
  words_only S R D E x y w v i p l = same _ _
      (λ h. (v i p l).1 (takes_part S R x y i p ((w i p l).0 h)))
      (λ h. (w i p l).1 (takes_part R S y x i p ((v i p l).0 h)))
