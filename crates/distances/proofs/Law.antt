-- Law D: the estimates from the finish of a job on are distances.
-- Assumes nothing.
use mathlib.Core.Path.{◌≡◌}
use mathlib.Core.Logic.{◌⊎◌, inl, inr}
use Prim.Native.Nat.{ℕ, zero, suc, ◌+◌, ◌-◌, ◌≤◌, ◌<◌}
use native.Mathlib.Omega.{arith}
use lib.Dec.{T}
use Rattle.facts.specs.Facts.{has}
use Rattle.facts.proofs.Bools.{T?}
use Rattle.rules.specs.Table.{Problem}
use Rattle.rules.specs.Premises.{InOrder, deletes}
use Rattle.rules.specs.Plans.{Plan, In, finish, Over, holds, Valid}
use Rattle.rules.specs.Estimates.{cost, condition, dearest, Estimates}
use Rattle.rules.proofs.Time.{Quiet, Given, caused}
use Rattle.rules.proofs.Clashing.{ordered, differ}
use Rattle.rules.proofs.Early.{plus_le, cost_le, condition_free, condition_is, Dear, dearest_at}
use Rattle.distances.specs.Distances.{since, SparedFacts}

module _ (P : Problem) (ok : InOrder P) (bound : ℕ) (s : Plan) (v : Valid P bound s) (i : ℕ) (k : In P s i) (w : ℕ) (rest : SparedFacts P i w) (est : ℕ → ℕ) (x : Estimates (since P w) est) where
  -- job j, over before which i is, starts its estimate behind the finish of i
  abbrev Far : ℕ → Type 0
  Far j = finish P s i + P.gap + est j ≤ s j

  -- fact p holds at u only if its cost has passed since then
  abbrev Passed : (p u : ℕ) → Type 0
  Passed p u = finish P s i + condition (since P w) est p ≤ u

  -- by induction on a time below which both are
  start_far : (t : ℕ) → ((p u : ℕ) → u < t → finish P s i ≤ u → p < 64 → T (holds P s p u) → Passed p u) → (j : ℕ) → In P s j → s j < t → Over P s i j → Far j
  start_far t fact j m l o = go (dearest_at (since P w) est j 64)
    where
      is : est j ≡ dearest (since P w) est j 64
      is = x j m.below

      go : (dearest (since P w) est j 64 ≡ 0) ⊎ Dear (since P w) est j (dearest (since P w) est j 64) → Far j
      go (inl e) = omega (arith, is)
      go (inr (p, n, e)) = omega (arith, is, fact p (s j - P.gap) (omega arith) (omega arith) (ok.needed j m.below p n) (v.ready j p m n))

  fact_far : (t p u : ℕ) → u < t → finish P s i ≤ u → p < 64 → T (holds P s p u) → Passed p u
  fact_far zero p u l f b h = absurd (omega arith)
  fact_far (suc t) p u l f b h = go (T? (has w p)) (T? (has (P.deletions i) p)) (start_far t (λ q z m y. fact_far t q z m y))
    where
      later : deletes P i p → (T (has w p) → ⊥) → ((j : ℕ) → In P s j → s j < t → Over P s i j → Far j) → (T (has P.opening p) × Quiet P s p 0 u) ⊎ ((a : ℕ) × Given P s p u a) → Passed p u
      later d q r (inl (o, c)) = absurd (c i k d (omega (arith, ok.long i k.below)) f)
      later d q r (inr (a, g)) = pick (ordered P ok s v.apart i a p k g.there (differ P ok i a p g.there.below g.gives d) d (inr g.gives))
        where
          pick : Over P s i a ⊎ Over P s a i → Passed p u
          pick (inr o) = absurd (g.quiet i k d (omega (arith, ok.long i k.below)) f)
          pick (inl o) =
              let one : 1 ≤ P.duration a = ok.long a g.there.below in
              let e : finish P s a ≤ u = g.before in
              omega (arith, r a g.there (omega arith) o, condition_is (since P w) est p q, plus_le (cost (since P w) est p) P.gap, cost_le (since P w) est p a g.there.below g.gives, plus_le (est a) (P.duration a))

      go : T (has w p) ⊎ (T (has w p) → ⊥) → deletes P i p ⊎ (deletes P i p → ⊥) → ((j : ℕ) → In P s j → s j < t → Over P s i j → Far j) → Passed p u
      go (inl o) d r = omega (arith, condition_free (since P w) est p o)
      go (inr q) (inl d) r = later d q r (caused P s p u h)
      go (inr q) (inr n) r = absurd (q (rest p b n))

  pub start_distance : (j : ℕ) → In P s j → Over P s i j → Far j
  start_distance j m o = start_far (suc (s j)) (fact_far (suc (s j))) j m (omega arith) o

  -- the goals hold at the bound
  pub goal_distance : (p : ℕ) → T (has P.goals p) → Passed p bound
  goal_distance p g = fact_far (suc bound) p bound (omega arith) (v.inside i k) (ok.wanted p g) (v.reached p g)
