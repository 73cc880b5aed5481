-- The gap by rule 1: a plan is valid exactly where it is with no gap and every duration, and the bound, longer by it.
-- Assumes nothing.
use mathlib.Core.Path.{◌≡◌, refl, sym, ap, ap₂, subst, ◌∙◌}
use mathlib.Core.Logic.{◌⊎◌, inl, inr, ◌↔◌}
use mathlib.Core.Bool.{Bool, ◌&&◌}
use Prim.Native.Nat.{ℕ, zero, suc, ◌+◌, ◌-◌, ◌≤◌, ◌<◌}
use native.Mathlib.Nat.{sub-zero}
use native.Mathlib.Omega.{arith}
use native.Mathlib.Decide.{dec_le}
use lib.Dec.{T, eqb, eqb→eq}
use Rattle.facts.specs.Facts.{has}
use Rattle.facts.proofs.Bools.{and_r, same, eqb_of}
use Rattle.rules.specs.Table.{Problem}
use Rattle.rules.specs.Premises.{InOrder}
use Rattle.rules.specs.Clashes.{interfere}
use Rattle.rules.specs.Plans.{Plan, in_plan, In, finish, Over, ends, after_if, finishes, holds, Valid}
use Rattle.rules.proofs.Time.{still}
use Rattle.rules.proofs.Retimed.{redo}

module _ (P : Problem) (ok : InOrder P) (s : Plan) where
  -- the same jobs by rule 1, each longer by the gap
  abbrev pub longer : Problem
  longer = redo P (λ i. P.duration i + P.gap) P.release 0

  -- what finishes at t finishes there the gap later
  ends_later : (i t u : ℕ) → u ≡ t + P.gap → ends longer s i u ≡ ends P s i t
  unfolding ends
  ends_later i t u e = ap (λ (b : Bool). in_plan s i && b)
      (same (eqb (finish longer s i) u) (eqb (finish P s i) t)
      (λ h. let x : finish P s i ≡ t = omega (arith, eqb→eq (finish longer s i) u h) in eqb_of x)
      (λ h. let x : finish longer s i ≡ u = omega (arith, eqb→eq (finish P s i) t h) in eqb_of x))

  finishes_later : (p t u k : ℕ) (b c : Bool) → u ≡ t + P.gap → b ≡ c → finishes longer s p u k b ≡ finishes P s p t k c
  unfolding finishes
  finishes_later p t u zero b c e d = d
  finishes_later p t u (suc k) b c e d =
      ap₂ (λ (now before : Bool). after_if now (has (P.additions k) p) (has (P.deletions k) p) before) (ends_later k t u e) (finishes_later p t u k b c e d)

  -- nothing finishes there within the gap
  at_first : (p t : ℕ) → t ≤ P.gap → holds longer s p t ≡ has P.opening p
  unfolding holds ends
  at_first p zero l = refl
  at_first p (suc t) l = still longer s p (suc t) P.count (holds longer s p t) none ∙ at_first p t (omega arith)
    where
      none : (i : ℕ) → i < P.count → T (ends longer s i (suc t)) → ⊥
      none i m h = let x = eqb→eq (finish longer s i) (suc t) (and_r (in_plan s i) _ h) in omega (arith, ok.long i m)

  -- so each fact is there the gap later
  holds_later : (p t u : ℕ) → u ≡ t + P.gap → holds longer s p u ≡ holds P s p t
  unfolding holds
  holds_later p zero u e = at_first p u (omega arith)
  holds_later p (suc t) zero e = absurd (omega arith)
  holds_later p (suc t) (suc u) e = finishes_later p (suc t) (suc u) P.count (holds longer s p u) (holds P s p t) e (holds_later p t u (omega arith))

  -- what a start sees
  seen : (p t : ℕ) → holds longer s p (t - 0) ≡ holds P s p (t - P.gap)
  unfolding holds
  seen p t = ap (holds longer s p) (sub-zero t) ∙ go (dec_le P.gap t)
    where
      go : Dec (P.gap ≤ t) → holds longer s p t ≡ holds P s p (t - P.gap)
      go (yes l) = holds_later p (t - P.gap) t (omega arith)
      go (no l) = at_first p t (omega arith) ∙ ap (holds P s p) none
        where
          none : 0 ≡ t - P.gap
          none = omega arith

  to : (i : ℕ) → In P s i → In longer s i
  to i k = record { below = k.below; chosen = k.chosen }

  from : (i : ℕ) → In longer s i → In P s i
  from i k = record { below = k.below; chosen = k.chosen }

  over_to : (i j : ℕ) → Over P s i j ⊎ Over P s j i → Over longer s i j ⊎ Over longer s j i
  over_to i j (inl o) = inl (omega arith)
  over_to i j (inr o) = inr (omega arith)

  over_from : (i j : ℕ) → Over longer s i j ⊎ Over longer s j i → Over P s i j ⊎ Over P s j i
  over_from i j (inl o) = inl (omega arith)
  over_from i j (inr o) = inr (omega arith)

  pub as_longer : (bound : ℕ) → Valid P bound s ↔ Valid longer (bound + P.gap) s
  unfolding interfere
  as_longer bound = (
    λ v. record {
      inside = λ i k. omega (arith, v.inside i (from i k));
      released = λ i k. v.released i (from i k);
      apart = λ i j k m h. over_to i j (v.apart i j (from i k) (from j m) h);
      ready = λ i p k n. subst T (sym (seen p (s i))) (v.ready i p (from i k) n);
      reached = λ p g. subst T (sym (holds_later p bound (bound + P.gap) refl)) (v.reached p g);
    },
    λ v. record {
      inside = λ i k. omega (arith, v.inside i (to i k));
      released = λ i k. v.released i (to i k);
      apart = λ i j k m h. over_from i j (v.apart i j (to i k) (to j m) h);
      ready = λ i p k n. subst T (seen p (s i)) (v.ready i p (to i k) n);
      reached = λ p g. subst T (holds_later p bound (bound + P.gap) refl) (v.reached p g);
    },
  )
