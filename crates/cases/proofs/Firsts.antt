-- No plan, the first plan and the least bound, by tests that are computed.
-- Assumes nothing.
use mathlib.Core.Path.{◌≡◌, subst}
use mathlib.Core.Bool.{Bool, true, false, not, ◌&&◌}
use Prim.Native.Nat.{ℕ, ◌-◌, ◌≤◌, ◌<◌}
use native.Mathlib.Omega.{arith}
use lib.Dec.{T, eqb, ltb, eqb→eq, ltb→lt, T_not}
use Rattle.facts.specs.Least.{any}
use Rattle.facts.proofs.Bools.{and_of, certain}
use Rattle.facts.proofs.Least.{any_of}
use Rattle.rules.specs.Table.{Problem}
use Rattle.rules.specs.Premises.{InOrder}
use Rattle.rules.specs.Plans.{Plan, in_plan, In, finish, Valid}
use Rattle.rules.specs.Order.{rank_of, rank, Before, First, NoPlan}
use Rattle.rules.proofs.Orders.{wider}
use Rattle.cases.proofs.Refute.{hopeless}
use Rattle.cases.proofs.Refuted.{hopeless_ok}

-- ── ranks ──

rank_of_some : (c : Bool) (n u : ℕ) → n < rank_of c u → T (not c)
unfolding rank_of
rank_of_some true n u l = omega arith
rank_of_some false n u l = tt

rank_of_less : (b c : Bool) (t u : ℕ) → T (not b) → rank_of b t < rank_of c u → t < u
unfolding rank_of
rank_of_less true c t u h l = absurd h
rank_of_less false true t u h l = absurd (omega arith)
rank_of_less false false t u h l = omega arith

-- where a plan comes before s, s has the job
rank_in : (s : Plan) (i n : ℕ) → n < rank (s i) → T (in_plan s i)
unfolding rank in_plan
rank_in s i n l = rank_of_some (eqb (s i) 65535) n (s i) l

-- and if that plan has it too, it starts it sooner
rank_less : (s z : Plan) (i : ℕ) → T (in_plan z i) → rank (z i) < rank (s i) → z i < s i
unfolding rank in_plan
rank_less s z i h l = rank_of_less (eqb (z i) 65535) (eqb (s i) 65535) (z i) (s i) h l

-- a plan with the same start has the job too
same_in : (s z : Plan) (i : ℕ) → z i ≡ s i → T (in_plan z i) → T (in_plan s i)
unfolding in_plan
same_in s z i e h = subst (λ (x : ℕ). T (not (eqb x 65535))) e h

-- ── plans that come before s at job k ──

-- by when a job ends: below k as in s, at k sooner, else by the bound
unfoldable pub sooner : (below at in? : Bool) → (end bound : ℕ) → ℕ
sooner true at true e b = e
sooner true at false e b = 0
sooner false true in? e b = e - 1
sooner false false in? e b = b

sooner_ok : (below at in? : Bool) (e b x : ℕ) → (T below → T in? × (x ≤ e)) → (T at → x < e) → x ≤ b → x ≤ sooner below at in? e b
unfolding sooner
sooner_ok true at true e b x f g l = (f tt).1
sooner_ok true at false e b x f g l = absurd (f tt).0
sooner_ok false true in? e b x f g l = omega (arith, g tt)
sooner_ok false false in? e b x f g l = l

-- the same of job i
unfoldable pub due_before : Problem → (bound : ℕ) → Plan → (k i : ℕ) → ℕ
due_before P bound s k i = sooner (ltb i k) (eqb i k) (in_plan s i) (finish P s i) bound

-- no valid plan comes before s
unfoldable pub none_before : Problem → (bound : ℕ) → Plan → Bool
none_before P bound s = not (any (λ k. let none = hopeless P (due_before P bound s k) in in_plan s k && not none) P.count)

module _ (P : Problem) (ok : InOrder P) where
  -- no plan is valid within the bound
  pub none : (bound : ℕ) → T (hopeless P (λ i. bound)) → NoPlan P bound
  none bound x z v = hopeless_ok P ok bound z v (λ i. bound) v.inside x

  -- a plan that comes before s at a job keeps those dues
  due_before_lem : (bound : ℕ) (s z : Plan) → Valid P bound z → (b : Before P z s) (i : ℕ) → In P z i → finish P z i ≤ due_before P bound s b.at i
  unfolding due_before
  due_before_lem bound s z v b i m = sooner_ok (ltb i b.at) (eqb i b.at) (in_plan s i) (finish P s i) bound (finish P z i) below here (v.inside i m)
    where
      below : T (ltb i b.at) → T (in_plan s i) × (finish P z i ≤ finish P s i)
      below l = let e : z i ≡ s i = b.same i (ltb→lt i b.at l) in (same_in s z i e m.chosen, omega arith)

      here : T (eqb i b.at) → finish P z i < finish P s i
      here l =
          let less : rank (z i) < rank (s i) = rw (eqb→eq i b.at l) b.less in
          omega (arith, rank_less s z i m.chosen less)

  -- a valid plan that none comes before is the first
  pub first : (bound : ℕ) (s : Plan) → Valid P bound s → T (none_before P bound s) → First P bound s
  unfolding none_before
  first bound s v x = record { ok = v; none = before }
    where
      before : (z : Plan) → Valid P bound z → Before P z s → ⊥
      before z w b =
          hopeless_ok P ok bound z w (due_before P bound s b.at) (due_before_lem bound s z w b)
          (certain (hopeless P (due_before P bound s b.at)) (λ n. T_not (any (λ k. in_plan s k && not (hopeless P (due_before P bound s k))) P.count) x
          (any_of (λ k. in_plan s k && not (hopeless P (due_before P bound s k))) P.count b.at b.below (and_of (in_plan s b.at) _ (rank_in s b.at _ b.less) n))))

  -- with no plan within b less one there is none within any bound below b
  pub below_least : (b : ℕ) → T (hopeless P (λ i. b - 1)) → (c : ℕ) → c < b → NoPlan P c
  below_least b x c l z v = none (b - 1) x z (wider P c (b - 1) z (omega arith) v)
