-- The consumers by number, and when a state has no flaw.
-- Assumes nothing.
use Rattle.std.specs.Prelude.{◌⊎◌, Bool, true, false, List, ℕ, ◌≤◌, ◌<◌, T, ltb}
use Rattle.facts.specs.Facts.{has}
use Rattle.rules.specs.Supports.{Support, Who, task, goal}
use Rattle.states.specs.State.{Search, NeedsFact, there, Safe}
use Rattle.cells.specs.View.{view}
use Rattle.lent.specs.Lent.{hits_of}

-- job b, or End
abbrev pub who_of : Bool → ℕ → Who
who_of true b = task b
who_of false b = goal

-- consumer b: a job, or End where b is 24
abbrev pub who_at : ℕ → Who
who_at b = who_of (ltb b 24) b

-- ── no flaw ──

-- the fact p has a safe support for the consumer b
abbrev pub SomeSafe : Search → List ℕ → (p b : ℕ) → Type 0
SomeSafe P s p b = (x : Support) × Safe P (view s) p (who_at b) x

-- every fact that the consumer b wants has a safe support, if b is there
abbrev pub SafeFor : Search → List ℕ → ℕ → Type 0
SafeFor P s b = T (there (view s) (who_at b)) → (p : ℕ) → NeedsFact P (who_at b) p → SomeSafe P s p b

-- a and b are not both inside, or one is surely over before the other
abbrev pub Ordered : List ℕ → (a b : ℕ) → Type 0
Ordered s a b = T ((view s).inside a) → T ((view s).inside b) → T ((view s).sure a b) ⊎ T ((view s).sure b a)

-- every consumer is safe, and the jobs that interfere are in order
pub record NoFlaw (P : Search) (s L : List ℕ) : Type 0 where
  pub ready : (b : ℕ) → b ≤ 24 → SafeFor P s b
  pub apart : (a b : ℕ) → a < 24 → b < 24 → T (has (hits_of L a) b) → Ordered s a b
