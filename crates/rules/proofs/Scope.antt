-- In a table of 01 a plan is valid exactly by 01's four sentences.
-- Assumes nothing.
use mathlib.Core.Path.{◌≡◌, sym, ap, subst}
use mathlib.Core.Logic.{◌⊎◌, inl, inr, ◌↔◌}
use Prim.Native.Nat.{ℕ, ◌-◌, ◌≤◌, ◌<◌}
use native.Mathlib.Omega.{arith}
use lib.Dec.{T}
use Rattle.rules.specs.Table.{Problem}
use Rattle.rules.specs.Plans.{Plan, finish, Over, holds, Valid}
use Rattle.rules.specs.Scope.{Valid01}

module _ (P : Problem) (none : (i : ℕ) → i < P.count → P.release i ≡ 0) (touching : P.gap ≡ 0) (bound : ℕ) (s : Plan) where
  at_once : (t p : ℕ) → holds P s p (t - P.gap) ≡ holds P s p t
  at_once t p = let e : t - P.gap ≡ t = omega (arith, touching) in ap (holds P s p) e

  close : (i j : ℕ) → Over P s i j ⊎ Over P s j i → (finish P s i ≤ s j) ⊎ (finish P s j ≤ s i)
  close i j (inl o) = inl (omega arith)
  close i j (inr o) = inr (omega arith)

  over : (i j : ℕ) → (finish P s i ≤ s j) ⊎ (finish P s j ≤ s i) → Over P s i j ⊎ Over P s j i
  over i j (inl o) = inl (omega (arith, touching))
  over i j (inr o) = inr (omega (arith, touching))

  -- no release and no gap
  pub valid_01 : Valid P bound s ↔ Valid01 P bound s
  valid_01 = (
    λ v. record {
      inside = v.inside;
      apart = λ i j k m h. close i j (v.apart i j k m h);
      ready = λ i p k n. subst T (at_once (s i) p) (v.ready i p k n);
      reached = v.reached;
    },
    λ v. record {
      inside = v.inside;
      released = λ i k. omega (arith, none i k.below);
      apart = λ i j k m h. over i j (v.apart i j k m h);
      ready = λ i p k n. subst T (sym (at_once (s i) p)) (v.ready i p k n);
      reached = v.reached;
    },
  )
