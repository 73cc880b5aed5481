-- Candidates for a support, as words of jobs.
-- Assumes nothing.
use Rattle.std.specs.Prelude.{◌≡◌, ◌⊎◌, ◌≢◌, Bool, true, false, List, ℕ, ◌≤◌, ◌<◌, T}
use Rattle.std.specs.Int.Bits.{bit_and}
use Rattle.facts.specs.Facts.{has}
use Rattle.rules.specs.Supports.{Support}
use Rattle.states.specs.State.{Search, surely_done, surely_late, useless, Killer, JobMay, May}
use Rattle.cells.specs.View.{view, word_at, nevers}
use Rattle.lent.specs.Lent.{Cols, Gives}
use Rattle.lent.specs.Consumers.{who_at}

-- ── a word that is sifted ──

-- w holds the jobs of the word `all` that passed a test; of each, its answer
pub record Sifts (answer : ℕ → Bool → Type 0) (all w : ℕ) : Type 0 where
  pub of : (i : ℕ) → T (has w i) → T (has all i) × (i < 24) × answer i true
  pub at : (i : ℕ) → i < 24 → T (has all i) → T (has w i) ⊎ answer i false

-- ── what is asked of one job ──

-- with `sure` the consumer b is surely not over before job d, else it is not surely over
abbrev pub Threatens : (sure : Bool) → List ℕ → (b d : ℕ) → Type 0
Threatens true s b d = T (surely_late (view s) (who_at b) d)
Threatens false s b d = T (surely_done (view s) (who_at b) d) → ⊥

-- another job before which it is so
pub record OtherThreat (sure : Bool) (s : List ℕ) (b d : ℕ) : Type 0 where
  pub below : d < 24
  pub other : d ≢ b
  pub threat : Threatens sure s b d

-- another job that is not out, may be over before the consumer b, and that no danger surely follows
pub record FairSupport (s : List ℕ) (b dang a : ℕ) : Type 0 where
  pub below : a < 24
  pub other : a ≢ b
  pub free : T ((view s).barred a) → ⊥
  pub before : T (useless (view s) a (who_at b)) → ⊥
  pub clear : bit_and (word_at s (nevers a)) dang ≡ 0

-- ── words of jobs, for the fact p of the consumer b ──

-- d deletes the fact, and before it the consumer is surely not over, or not surely over
pub record Threat (sure : Bool) (P : Search) (s : List ℕ) (p b d : ℕ) : Type 0 where
  pub killer : Killer P (view s) p (who_at b) d
  pub threat : Threatens sure s b d

-- d deletes the fact and surely comes before the consumer is over
abbrev pub Danger : Search → List ℕ → (p b d : ℕ) → Type 0
Danger = Threat true

-- d deletes the fact and may come before the consumer is over
abbrev pub Unsettled : Search → List ℕ → (p b d : ℕ) → Type 0
Unsettled = Threat false

-- job a may be the support
abbrev pub Candidate : Search → List ℕ → (p b a : ℕ) → Type 0
Candidate P s p b a = JobMay P (view s) p (who_at b) a

-- the words of those that add the fact and of its dangers
pub record Sight (P : Search) (s : List ℕ) (p b adders dang : ℕ) : Type 0 where
  pub few : P.problem.count ≤ 24
  pub gives : Cols (Gives P.problem p) adders 24
  pub dangers : Cols (Danger P s p b) dang 24

-- nothing may be the support
abbrev pub NoMay : Search → List ℕ → (p b : ℕ) → Type 0
NoMay P s p b = (x : Support) → May P (view s) p (who_at b) x → ⊥
