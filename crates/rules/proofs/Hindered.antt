-- Why there is no plan: what is said is so, where a goal is named there is none, and it does not depend on which solution the estimates are.
-- Assumes nothing.
use mathlib.Core.Path.{◌≡◌, refl, ap}
use mathlib.Core.Logic.{◌≢◌}
use mathlib.Core.Bool.{Bool, true, false, ◌&&◌, cond}
use Prim.Native.Nat.{ℕ, ◌≤◌, ◌<◌}
use native.Mathlib.Omega.{arith}
use lib.Dec.{T, eqb, ltb, ltb→lt, eqb→eq}
use Rattle.facts.specs.Facts.{has}
use Rattle.facts.specs.Least.{least, any}
use Rattle.facts.proofs.Bools.{and_l, and_r, and_of, eqb_of, at_most}
use Rattle.facts.proofs.Least.{Lowest, lowest, any_of, least_hit, least_same, any_same}
use Rattle.rules.specs.declared.Hindrance.{Hindrance}
use Rattle.rules.specs.declared.Hindrance.TheVariants.{Never, TooDear, Neither}
use Rattle.rules.specs.Table.{Problem}
use Rattle.rules.specs.Premises.{InOrder}
use Rattle.rules.specs.Plans.{Plan, Valid}
use Rattle.rules.specs.Order.{NoPlan}
use Rattle.rules.specs.Estimates.{cost, Estimates}
use Rattle.rules.specs.Reasons.{never_reached, above_bound, hindrance_of}
use Rattle.rules.proofs.Early.{never_soon, cost_same, estimates_only}

module _ (P : Problem) (est : ℕ → ℕ) (bound : ℕ) where
  -- every goal is reachable by the estimates
  abbrev Reachable : Type 0
  Reachable = (p : ℕ) → T (has P.goals p) → cost P est p ≢ 65535

  -- what each reason says: a goal that is never reachable leaves no plan at all, one above the bound none within it
  abbrev pub Meant : Hindrance → Type 0
  Meant (Never p) = T (has P.goals p) × (cost P est p ≡ 65535) × Lowest (never_reached P est) 64 p × ((b : ℕ) → b < 65535 → NoPlan P b)
  Meant (TooDear p) = T (has P.goals p) × (bound < cost P est p) × Lowest (above_bound P est bound) 64 p × ((b : ℕ) → b ≤ bound → NoPlan P b) × Reachable
  Meant Neither = (p : ℕ) → T (has P.goals p) → cost P est p ≤ bound

module _ (P : Problem) (ok : InOrder P) (est : ℕ → ℕ) (x : Estimates P est) (bound : ℕ) where
  -- no goal costs more than the bound of a valid plan
  goal_cost : (b : ℕ) (z : Plan) → Valid P b z → (p : ℕ) → T (has P.goals p) → cost P est p ≤ b
  goal_cost b z v p g = never_soon P ok est x b z v p b (v.reached p g)

  -- every reason shown is true
  pub hindrance_true : Meant P est bound (hindrance_of P est bound)
  unfolding hindrance_of
  hindrance_true = go (any (never_reached P est) 64) (any (above_bound P est bound) 64) (least_hit (never_reached P est) 64) (least_hit (above_bound P est bound) 64)
      (λ n p g e. n (any_of (never_reached P est) 64 p (ok.wanted p g) (and_of (has P.goals p) _ g (eqb_of e))))
      (λ n p g. at_most bound (cost P est p) (λ h. n (any_of (above_bound P est bound) 64 p (ok.wanted p g) (and_of (has P.goals p) _ g h))))
    where
      p : ℕ
      p = least (never_reached P est) 64

      r : ℕ
      r = least (above_bound P est bound) 64

      go : (a b : Bool) → (T a → (p < 64) × T (never_reached P est p)) → (T b → (r < 64) × T (above_bound P est bound r))
          → ((T a → ⊥) → Reachable P est bound) → ((T b → ⊥) → (p : ℕ) → T (has P.goals p) → cost P est p ≤ bound) → Meant P est bound (cond a (Never p) (cond b (TooDear r) Neither))
      go true b f g m n =
          let h = (f tt).1 in
          let w : T (has P.goals p) = and_l (has P.goals p) _ h in
          let e : cost P est p ≡ 65535 = eqb→eq (cost P est p) 65535 (and_r (has P.goals p) _ h) in
          (w, e, lowest (never_reached P est) 64, λ b l z v. omega (arith, goal_cost b z v p w))
      go false true f g m n =
          let h = (g tt).1 in
          let w : T (has P.goals r) = and_l (has P.goals r) _ h in
          let e : bound < cost P est r = ltb→lt bound (cost P est r) (and_r (has P.goals r) _ h) in
          (w, e, lowest (above_bound P est bound) 64, λ b l z v. omega (arith, goal_cost b z v r w), m (λ t. t))
      go false false f g m n = n (λ t. t)

  -- where a goal is named, no plan is valid within the bound
  pub named_no_plan : bound < 65535 → hindrance_of P est bound ≢ Neither → NoPlan P bound
  named_no_plan small ne = go (hindrance_of P est bound) ne hindrance_true
    where
      go : (r : Hindrance) → r ≢ Neither → Meant P est bound r → NoPlan P bound
      go (Never p) n m = m.3 bound small
      go (TooDear p) n m = m.3 bound (omega arith)
      go Neither n m = absurd (n refl)

-- the reason is one, whichever solution the estimates are
module _ (P : Problem) (ok : InOrder P) (e f : ℕ → ℕ) (x : Estimates P e) (y : Estimates P f) (bound : ℕ) where
  costs : (p : ℕ) → cost P e p ≡ cost P f p
  costs p = cost_same P e f p (estimates_only P ok e f x y)

  same_never : (p : ℕ) → never_reached P e p ≡ never_reached P f p
  same_never p = ap (λ (c : ℕ). has P.goals p && eqb c 65535) (costs p)

  same_above : (p : ℕ) → above_bound P e bound p ≡ above_bound P f bound p
  same_above p = ap (λ (c : ℕ). has P.goals p && ltb bound c) (costs p)

  pub hindrance_only : hindrance_of P e bound ≡ hindrance_of P f bound
  unfolding hindrance_of
  hindrance_only = rw (
    any_same (never_reached P e) (never_reached P f) 64 (λ i l. same_never i),
    any_same (above_bound P e bound) (above_bound P f bound) 64 (λ i l. same_above i),
    least_same (never_reached P e) (never_reached P f) 64 (λ i l. same_never i),
    least_same (above_bound P e bound) (above_bound P f bound) 64 (λ i l. same_above i),
  )
