-- Where no plan is the first there is none.
-- Assumes nothing.
use mathlib.Core.Path.{◌≡◌, ◌∙◌, subst}
use mathlib.Core.Logic.{⊎_elim}
use Prim.Native.Nat.{ℕ, zero, suc, ◌<◌}
use native.Mathlib.Omega.{arith}
use Rattle.facts.proofs.Bools.{below_suc}
use Rattle.rules.specs.Table.{Problem}
use Rattle.rules.specs.Plans.{Plan, Valid}
use Rattle.rules.specs.Order.{rank, First, NoPlan}

-- s comes before z at a job below k
pub record Sooner (k : ℕ) (s z : Plan) : Type 0 where
  pub at : ℕ
  pub below : at < k
  pub same : (j : ℕ) → j < at → s j ≡ z j
  pub less : rank (s at) < rank (z at)

-- s is valid, and no valid plan comes before it at a job below k
pub record FirstTo (P : Problem) (bound k : ℕ) (s : Plan) : Type 0 where
  pub ok : Valid P bound s
  pub none : (z : Plan) → Valid P bound z → Sooner k z s → ⊥

module _ (P : Problem) (bound : ℕ) where
  -- a valid plan that agrees with s below k is as early there
  agrees : (k : ℕ) (s z : Plan) → FirstTo P bound k s → Valid P bound z → ((j : ℕ) → j < k → z j ≡ s j) → FirstTo P bound k z
  agrees k s z f v e = record {
    ok = v;
    none = λ y g b. f.none y g (record {
      at = b.at;
      below = b.below;
      same = λ j l. b.same j l ∙ e j (omega (arith, b.below));
      less = subst (λ (x : ℕ). rank (y b.at) < rank x) (e b.at b.below) b.less;
    });
  }

  -- one job more: by the rank there
  next : (k n : ℕ) (s : Plan) → FirstTo P bound k s → rank (s k) < n → ((z : Plan) → FirstTo P bound (suc k) z → ⊥) → ⊥
  next k zero s f l h = omega arith
  next k (suc n) s f l h = h s (record {
    ok = f.ok;
    none = λ z g b. ⊎_elim
        (λ m. f.none z g (record { at = b.at; below = m; same = b.same; less = b.less }))
        (λ e. (let r : rank (z k) < rank (s k) = rw e at b.less in next k n z (agrees k s z f g (λ j m. b.same j (omega arith))) (omega arith) h))
        (below_suc b.at k b.below);
  })

  upto : (k : ℕ) (s : Plan) → Valid P bound s → ((z : Plan) → FirstTo P bound k z → ⊥) → ⊥
  upto zero s v h = h s (record { ok = v; none = λ z g b. omega (arith, b.below) })
  upto (suc k) s v h = upto k s v (λ z f. next k (suc (rank (z k))) z f (omega arith) h)

  pub no_first : ((s : Plan) → First P bound s → ⊥) → NoPlan P bound
  no_first h s v = upto P.count s v (λ z f. h z (record {
    ok = f.ok;
    none = λ y g b. f.none y g (record { at = b.at; below = b.below; same = b.same; less = b.less });
  }))
