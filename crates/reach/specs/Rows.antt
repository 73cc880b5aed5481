-- The pairs as rows of words, and what the steps towards them promise.
-- Assumes nothing.
use Rattle.std.specs.Prelude.{◌≡◌, ◌⊎◌, ◌↔◌, Bool, ◌&&◌, ◌||◌, List, ℕ, ◌≤◌, ◌<◌, T, length, get_or}
use Rattle.facts.specs.Facts.{has}
use Rattle.facts.specs.Words.{Word, Covers}
use Rattle.rules.specs.Table.{Problem, needs}
use Rattle.rules.specs.Premises.{adds, deletes}
use Rattle.tables.specs.declared.Action.{Action}
use Rattle.tables.specs.declared.Loaded.{Loaded}
use Rattle.tables.specs.Tables.{job_at}
use Rattle.reach.specs.Reach.{PairSet, Fit, Reachable}

-- bit q of row p
abbrev pub in_rows : List ℕ → PairSet
in_rows rows p q = has (get_or rows p 0) q

-- of the first n facts, those in c are reachable with all of c
abbrev pub FitIn : List ℕ → (c n : ℕ) → Type 0
FitIn rows c n = (r : ℕ) → r < n → T (has c r) → Covers (get_or rows r 0) c

-- q, with the row of q, is reachable, is not in d, and is reachable with all of c
pub record Seen (row c d q : ℕ) : Type 0 where
  pub stays : T (has d q) → ⊥
  pub itself : T (has row q)
  pub all : Covers row c

-- w has the facts below n that stay beside a job with the conditions c and the deletions d, and no other
pub record StayBeside (rows : List ℕ) (c d n w : ℕ) : Type 0 where
  pub sound : (q : ℕ) → T (has w q) → Seen (get_or rows q 0) c d q
  pub whole : (q : ℕ) → q < n → Seen (get_or rows q 0) c d q → T (has w q)

-- row p with what a job adds: p and q are both added, or one is added and the other stands beside
abbrev pub grown_row : (row a w p q : ℕ) → Bool
grown_row row a w p q = (has row q || (has a p && (has a q || has w q))) || (has w p && has a q)

-- the rows below n have grown so, the others are as they were
pub record Grown (old : List ℕ) (a w n : ℕ) (new : List ℕ) : Type 0 where
  pub size : length new ≡ 64
  pub grown : (p : ℕ) → p < n → Word (grown_row (get_or old p 0) a w p) (get_or new p 0)
  pub rest : (p : ℕ) → n ≤ p → get_or new p 0 ≡ get_or old p 0

-- the job gives the pair p and q: its conditions are pairwise reachable, and it adds both, or one of them and the other stands beside
pub record PairFound (rows : List ℕ) (c a d p q : ℕ) : Type 0 where
  pub fit : FitIn rows c 64
  pub how : (T (has a p) × T (has a q)) ⊎ (T (has a p) × Seen (get_or rows q 0) c d q) ⊎ (T (has a q) × Seen (get_or rows p 0) c d p)

-- the rows, where a job with the conditions c, additions a and deletions d has been looked at
pub record Looked (rows : List ℕ) (c a d : ℕ) (new : List ℕ) : Type 0 where
  pub size : length new ≡ 64
  pub more : (p q : ℕ) → T (in_rows rows p q) → T (in_rows new p q)
  pub sound : (p q : ℕ) → T (in_rows new p q) → T (in_rows rows p q) ⊎ PairFound rows c a d p q
  pub whole : (p q : ℕ) → p < 64 → PairFound rows c a d p q → T (in_rows new p q)

-- ── a round over the jobs ──

-- the rows are those of pairs without order
abbrev pub Sym : List ℕ → Type 0
Sym rows = (p q : ℕ) → T (in_rows rows p q) → T (in_rows rows q p)

-- every pair of the rows is reachable
abbrev pub AllReachable : Problem → List ℕ → Type 0
AllReachable P rows = (p q : ℕ) → T (in_rows rows p q) → Reachable P p q

-- every pair of the one is a pair of the other
abbrev pub Within : List ℕ → List ℕ → Type 0
Within new old = (p q : ℕ) → T (in_rows new p q) → T (in_rows old p q)

-- the rules hold of job i
pub record ClosedAt (P : Problem) (S : PairSet) (i : ℕ) : Type 0 where
  pub both : (p q : ℕ) → Fit P S i → adds P i p → adds P i q → T (S p q)
  pub beside : (p q : ℕ) → Fit P S i → adds P i p → (deletes P i q → ⊥) → T (S q q) → ((r : ℕ) → needs P i r → T (S r q)) → T (S p q)

-- the jobs below n have been looked at: all that is found is reachable, and where nothing is found the rules hold of them
pub record PairRound (P : Problem) (n : ℕ) (old new : List ℕ) : Type 0 where
  pub size : length new ≡ 64
  pub more : Within old new
  pub sym : Sym old → Sym new
  pub sound : AllReachable P old → AllReachable P new
  pub closes : Sym old → Within new old → (i : ℕ) → i < n → ClosedAt P (in_rows old) i

-- ── e-deletion ──

-- p can hold, and some fact of w is not reachable with it
abbrev pub Barred : List ℕ → (w p : ℕ) → Type 0
Barred rows w p = T (in_rows rows p p) × (Covers (get_or rows p 0) w → ⊥)

-- p is taken away by a job with these conditions, additions and deletions
abbrev pub Gone : List ℕ → (c a d p : ℕ) → Type 0
Gone rows c a d p = T (has d p) ⊎ (FitIn rows c 64 × (Barred rows a p ⊎ (Barred rows c p × (T (has a p) → ⊥))))

-- a job with other deletions
abbrev pub deleting : Action → ℕ → Action
deleting a w = record { conditions = a.conditions; additions = a.additions; deletions = w; duration = a.duration; release = a.release }

-- b is the job a, but deletes what a takes away
pub record EJob (rows : List ℕ) (a b : Action) : Type 0 where
  pub rest : b ≡ deleting a b.deletions
  pub gone : (p : ℕ) → T (has b.deletions p) ↔ Gone rows a.conditions a.additions a.deletions p

-- the jobs below n of the table r are those of l, but delete what they take away; else r is l
pub record EDone (rows : List ℕ) (l : Loaded) (n : ℕ) (r : Loaded) : Type 0 where
  pub size : length r.jobs ≡ 24
  pub lent : r.lent ≡ l.lent
  pub below : (i : ℕ) → i < n → EJob rows (job_at l i) (job_at r i)
  pub past : (i : ℕ) → n ≤ i → job_at r i ≡ job_at l i
