-- What the contracts of the walk over a crowd cite.
-- Assumes nothing.
use Rattle.std.specs.Prelude.{◌≡◌, ◌≢◌, List, ℕ, ◌≤◌, ◌<◌, T}
use Rattle.facts.specs.Facts.{has}
use Rattle.facts.specs.Words.{Covers}
use Rattle.rules.specs.Plans.{Plan}
use Rattle.states.specs.State.{Search}
use Rattle.cells.specs.View.{view, IsAhead}
use Rattle.lent.specs.Lent.{hits_of, Lent}
use Rattle.keeps.specs.Keeps.{AllKeepAway}
use Rattle.groups.specs.OneOf.{AllOneIn}
use Rattle.groups.specs.declared.Groups.{Groups}
use Rattle.crowds.specs.Crowds.{Pile}
use Rattle.crowds.specs.declared.Crowd.{Crowd}
use Rattle.crowds.specs.declared.Heap.{Heap}

-- ── words of which one job is in ──

-- the table is the problem's, and the groups are such words
pub record GroupsOf (L s : List ℕ) (g : Groups) (P : Search) : Type 0 where
  pub lent : Lent L P
  pub some : AllOneIn P s g.words 24

-- ── where a group stands ──

-- every job of the group starts at `from` or later
abbrev pub StartsFrom : List ℕ → (group from : ℕ) → Type 0
StartsFrom s g from = (a : ℕ) → T (has g a) → (a < 24) × (from ≤ (view s).lo a)

-- every job of the group interferes with all of the word
abbrev pub GroupClash : (L : List ℕ) (group w : ℕ) → Type 0
GroupClash L g w = (a : ℕ) → T (has g a) → Covers (hits_of L a) w

-- ── the walk ──

-- the group has jobs, all of the crowd w, starts late enough and interferes with all members
pub record Joins (s L : List ℕ) (w group : ℕ) (h : Heap) : Type 0 where
  pub some : group ≢ 0
  pub among : Covers w group
  pub late : StartsFrom s group h.from
  pub rivals : GroupClash L group h.members

-- the heap is a pile of groups of the crowd w
abbrev pub Piled : Search → List ℕ → (w : ℕ) → Heap → Type 0
Piled P s w h = Pile P (view s) w h.from h.till h.sum h.members

-- the crowd's lengths are right, and its groups are words of which one job is in
pub record FairCrowd (P : Search) (s L : List ℕ) (c : Crowd) : Type 0 where
  pub hold : AllKeepAway s L c.jobs c.words c.long 24
  pub some : AllOneIn P s c.words 24

-- one group of the crowd more, or not
pub record Heaps (s L : List ℕ) (c : Crowd) (h r : Heap) : Type 0 where
  pub small : h.sum ≤ 5000000 → r.sum ≤ 5000000
  pub same : r.from ≡ h.from
  pub piled : (P : Search) → Lent L P → FairCrowd P s L c → Piled P s c.jobs h → Piled P s c.jobs r

-- the table is the problem's, and the crowd is fair
pub record Trusted (L s : List ℕ) (c : Crowd) (P : Search) : Type 0 where
  pub lent : Lent L P
  pub fair : FairCrowd P s L c

-- ── a job beside the heap ──

-- the table is the problem's, and the heap one of the crowd w
pub record Heaped (L s : List ℕ) (w : ℕ) (h : Heap) (P : Search) : Type 0 where
  pub lent : Lent L P
  pub piled : Piled P s w h

-- and job k of the crowd interferes with all of it
pub record StandsBeside (L s : List ℕ) (w : ℕ) (h : Heap) (k : ℕ) (P : Search) : Type 0 where
  pub heaped : Heaped L s w h P
  pub among : T (has w k)
  pub rivals : Covers (hits_of L k) h.members

-- job k is over before every job of the word
abbrev pub AllAfter : (jobs k : ℕ) → Search → Plan → Type 0
AllAfter v k P Q = (a : ℕ) → T (has v a) → IsAhead k a P Q
