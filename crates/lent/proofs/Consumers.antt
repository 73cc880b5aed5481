-- The consumers by number.
-- Assumes nothing.
use mathlib.Core.Path.{◌≡◌, sym, subst}
use mathlib.Core.Logic.{◌≢◌}
use mathlib.Core.Bool.{Bool, true, false}
use mathlib.Core.List.{List}
use Prim.Native.Nat.{ℕ, ◌≤◌, ◌<◌}
use native.Mathlib.Omega.{arith}
use native.Mathlib.Decide.{dec_lt}
use borrow.Author.Tests.{lt-ltb}
use lib.Dec.{T, ltb}
use Rattle.facts.specs.Facts.{has}
use Rattle.states.specs.State.{Search, NeedsFact, Other}
use Rattle.rules.specs.Supports.{Who, task}
use Rattle.lent.specs.Lent.{wants_of, Listed, Lent}
use Rattle.lent.specs.Consumers.{who_at, who_of}

pub who_job : (b : ℕ) → b < 24 → who_at b ≡ task b
who_job b l = rw (lt-ltb b 24 l)

other_of : (x : Bool) (b d : ℕ) → d ≢ b → Other (who_of x b) d
other_of true b d h = h
other_of false b d h = tt

-- another job is another consumer
pub other_who : (b d : ℕ) → d ≢ b → Other (who_at b) d
other_who b d h = other_of (ltb b 24) b d h

pub other_not : (b d : ℕ) → d < 24 → Other (who_at b) d → d ≢ b
other_not b d l h e = let x : Other (task b) d = rw (lt-ltb b 24 (omega arith)) at h in x e

-- ── what a consumer wants is its word of the table ──

module _ {L : List ℕ} {P : Search} (e : Lent L P) (p : ℕ) where
  abbrev t : Listed L P.problem
  t = e.listed

  pub wants_in : (b : ℕ) → b ≤ 24 → NeedsFact P (who_at b) p → T (has (wants_of L b) p)
  wants_in b l h = go (dec_lt b 24)
    where
      go : Dec (b < 24) → T (has (wants_of L b) p)
      go (yes k) = subst (λ (w : ℕ). T (has w p)) (t.conds b k) (subst (λ (v : Who). NeedsFact P v p) (who_job b k) h)
      go (no k) = let z : b ≡ 24 = omega arith in subst (λ (x : ℕ). T (has (wants_of L x) p)) (sym z) (subst (λ (w : ℕ). T (has w p)) t.goals (rw z at h))

  pub wants_of_lem : (b : ℕ) → b ≤ 24 → T (has (wants_of L b) p) → NeedsFact P (who_at b) p
  wants_of_lem b l h = go (dec_lt b 24)
    where
      go : Dec (b < 24) → NeedsFact P (who_at b) p
      go (yes k) = subst (λ (v : Who). NeedsFact P v p) (sym (who_job b k)) (subst (λ (w : ℕ). T (has w p)) (sym (t.conds b k)) h)
      go (no k) = let z : b ≡ 24 = omega arith in subst (λ (x : ℕ). NeedsFact P (who_at x) p) (sym z) (subst (λ (w : ℕ). T (has w p)) (sym t.goals) (rw z at h))
