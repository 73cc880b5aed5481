-- What the contracts of the pruning by supports cite.
-- Assumes nothing.
use Rattle.std.specs.Prelude.{List, ℕ, ◌+◌, ◌≤◌, ◌<◌, T}
use Rattle.facts.specs.Facts.{has}
use Rattle.rules.specs.Premises.{deletes}
use Rattle.states.specs.State.{Search, Forced, ForcedStart, there, NeedsFact, StartMay}
use Rattle.cells.specs.View.{view}
use Rattle.lent.specs.Lent.{wait_of, Lent}
use Rattle.lent.specs.Consumers.{who_at}
use Rattle.supports.specs.Supports.{Candidate, NoMay}

-- some fact of the consumer b has no candidate
pub record Lost (s : List ℕ) (b : ℕ) (P : Search) : Type 0 where
  pub p : ℕ
  pub wants : NeedsFact P (who_at b) p
  pub none : NoMay P s p b

-- every job of the word deletes p
abbrev pub Killers : Search → (p w : ℕ) → Type 0
Killers P p w = (d : ℕ) → T (has w d) → deletes P.problem d p

-- the consumer b is there, the job a is its support for a fact in the plan left, and the jobs of `kills` delete the fact
pub record Spared (s : List ℕ) (b a kills : ℕ) (P : Search) : Type 0 where
  pub p : ℕ
  pub here : T (there (view s) (who_at b))
  pub forced : Forced P (view s) (who_at b) p a
  pub killers : Killers P p kills

-- the same for Start
pub record Begun (s : List ℕ) (b kills : ℕ) (P : Search) : Type 0 where
  pub p : ℕ
  pub forced : ForcedStart P (view s) (who_at b) p
  pub killers : Killers P p kills

-- every job of w that is one finishes at r or later
abbrev pub LeastEnd : (s L : List ℕ) (w b r : ℕ) → Type 0
LeastEnd s L w b r = (a : ℕ) → a < 24 → T (has w a) → r ≤ (view s).lo a + wait_of L a b

-- b wants a fact, and all its candidates that are jobs are in w
pub record AllCandidates (s : List ℕ) (b w : ℕ) (P : Search) : Type 0 where
  pub p : ℕ
  pub wants : NeedsFact P (who_at b) p
  pub all : (a : ℕ) → Candidate P s p b a → T (has w a)

-- and Start is none
pub record Awaits (L s : List ℕ) (b w : ℕ) (P : Search) : Type 0 where
  pub lent : Lent L P
  pub told : AllCandidates s b w P
  pub late : StartMay P (view s) told.p (who_at b) → ⊥

-- b has no support but the jobs of w, and the jobs of `kills` delete the fact
pub record OnlyOne (s : List ℕ) (b w kills : ℕ) (P : Search) : Type 0 where
  pub told : AllCandidates s b w P
  pub late : StartMay P (view s) told.p (who_at b) → ⊥
  pub killers : Killers P told.p kills

-- or may be one
pub record OnlyStart (s : List ℕ) (b w kills : ℕ) (P : Search) : Type 0 where
  pub told : AllCandidates s b w P
  pub killers : Killers P told.p kills
