-- What the flaw finder's contracts cite.
-- Assumes nothing.
use Rattle.std.specs.Prelude.{◌≡◌, ◌⊎◌, ◌≢◌, Bool, true, false, List, ℕ, ◌≤◌, ◌<◌, T}
use Rattle.facts.specs.Facts.{has}
use Rattle.rules.specs.Premises.{InOrder}
use Rattle.rules.specs.Clashes.{interfere}
use Rattle.states.specs.State.{Search, OpenJob, OpenPair}
use Rattle.cells.specs.View.{view}
use Rattle.lent.specs.Lent.{Cols, hits_of}
use Rattle.lent.specs.Consumers.{SomeSafe, SafeFor, Ordered}
use Rattle.supports.specs.Supports.{Candidate, Unsettled, NoMay}
use Rattle.flaws.specs.declared.Repair.{Repair}
use Rattle.flaws.specs.declared.Repair.TheVariants.{Job, Pair}
use Rattle.flaws.specs.declared.Choice.{Choice}
use Rattle.flaws.specs.declared.Choice.TheVariants.{Fine, Lost, Open}
use Rattle.flaws.specs.declared.Scene.{Scene}

-- ── choices ──

-- which pair is to be ordered where d deletes the fact of the candidate a for b: b and d where d surely is not over before a, else d and a
abbrev pub threat_pair : (never : Bool) → (a b d : ℕ) → Repair
threat_pair true a b d = Pair b d
threat_pair false a b d = Pair d a

-- job x is neither in nor out; it is open whether x is over before y
pub record FreeJob (s : List ℕ) (x : ℕ) : Type 0 where
  pub below : x < 24
  pub free : OpenJob (view s) x

-- it is open whether x is over before y
pub record FreePair (s : List ℕ) (x y : ℕ) : Type 0 where
  pub first : x < 24
  pub second : y < 24
  pub free : OpenPair (view s) x y

-- the job, or the pair, of the repair is free
abbrev pub Free : List ℕ → Repair → Type 0
Free s (Job x) = FreeJob s x
Free s (Pair x y) = FreePair s x y

-- no flaw: X is so. One that no repair mends: N is so. One with a repair: that is free.
pub record Picks (s : List ℕ) (X N : Type 0) (c : Choice) : Type 0 where
  pub fine : c ≡ Fine → X
  pub lost : c ≡ Lost → N
  pub repair : (r : Repair) → c ≡ Open r → Free s r

-- the pair the other way round is free, if the answer says so
abbrev pub Roomier : List ℕ → (x y : ℕ) → Bool → Type 0
Roomier s x y r = r ≡ true → FreePair s y x

-- the same choice, or of a pair the other way round where that is free
abbrev pub Eased : List ℕ → (c r : Choice) → Type 0
Eased s c r = (r ≡ c) ⊎ ((x y : ℕ) × (c ≡ Open (Pair x y)) × (r ≡ Open (Pair y x)) × FreePair s y x)

-- of two candidates one is taken; the first only where it is one
abbrev pub Sooner : (best c r : Choice) → Type 0
Sooner best c r = (r ≡ c) ⊎ ((r ≡ best) × (best ≢ Lost))

-- of two flaws one is taken, and none only where both are none
abbrev pub Urgent : (best c r : Choice) → Type 0
Urgent best c r = ((r ≡ c) × (c ≢ Fine)) ⊎ ((r ≡ best) × (best ≡ Fine → c ≡ Fine))

-- ── one fact p of a consumer b ──

-- the word of the deleters before which the consumer is not surely over
pub record Pending (P : Search) (s : List ℕ) (p b rest : ℕ) : Type 0 where
  pub few : P.problem.count ≤ 24
  pub unsettled : Cols (Unsettled P s p b) rest 24

-- the words of its candidates and of those deleters
pub record SceneOf (P : Search) (s : List ℕ) (p : ℕ) (x : Scene) : Type 0 where
  pub cands : Cols (Candidate P s p x.by) x.cands 24
  pub left : Pending P s p x.by x.rest

-- no job is a candidate
abbrev pub NoCandidate : Search → List ℕ → (p b : ℕ) → Type 0
NoCandidate P s p b = (a : ℕ) → Candidate P s p b a → ⊥

-- ── all facts of a consumer, all consumers ──

-- every fact of the word has a safe support for b; some fact of it has no candidate
abbrev pub AllSafe : Search → List ℕ → (b w : ℕ) → Type 0
AllSafe P s b w = (p : ℕ) → T (has w p) → SomeSafe P s p b

-- some fact of the word has no candidate for b
abbrev pub OneLost : Search → List ℕ → (b w : ℕ) → Type 0
OneLost P s b w = (p : ℕ) × T (has w p) × NoMay P s p b

-- every consumer below n is safe
abbrev pub SafeBelow : Search → List ℕ → ℕ → Type 0
SafeBelow P s n = (b : ℕ) → b < n → SafeFor P s b

-- ── jobs that interfere ──

-- a and b are jobs in order that interfere
pub record Interfering (P : Search) (a b : ℕ) : Type 0 where
  pub wf : InOrder P.problem
  pub meet : T (interfere P.problem a b)

-- job a is in order with all that interfere with it; so is every job
abbrev pub RowOrdered : (s L : List ℕ) (a : ℕ) → Type 0
RowOrdered s L a = a < 24 → (b : ℕ) → b < 24 → T (has (hits_of L a) b) → Ordered s a b

-- every two jobs that interfere are in order
abbrev pub AllOrdered : (s L : List ℕ) → Type 0
AllOrdered s L = (a b : ℕ) → a < 24 → b < 24 → T (has (hits_of L a) b) → Ordered s a b
