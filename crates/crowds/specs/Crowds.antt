-- Groups of jobs that exclude each other: in every plan left one job of each group is in, and they stand one after the other.
-- Assumes nothing.
use Rattle.std.specs.Prelude.{◌≡◌, List, [], ◌∷◌, ℕ, ◌+◌, ◌≤◌, T}
use Rattle.facts.specs.Facts.{has}
use Rattle.rules.specs.Clashes.{interfere}
use Rattle.rules.specs.Plans.{Plan}
use Rattle.states.specs.State.{Search, HasJob, Ahead, St, Left, Sure}
use Rattle.groups.specs.OneOf.{SomeOf}

-- a word of jobs of which one is in, counted as one job: it keeps all others away for `long`
pub record Group : Type 0 where
  pub jobs : ℕ
  pub long : ℕ

-- in every plan left where a is over before b, b starts n or more after the start of a
abbrev pub Away : Search → St → (a n b : ℕ) → Type 0
Away P s a n b = (Q : Plan) → Left P s Q → HasJob P Q a → HasJob P Q b → Ahead P Q a b → Q a + n ≤ Q b

-- the group's jobs start at `from` or later, and it is gone by `till`
pub record GroupPlaced (P : Search) (s : St) (from till : ℕ) (g : Group) : Type 0 where
  pub some : SomeOf P s g.jobs
  pub lo : (a : ℕ) → T (has g.jobs a) → from ≤ s.lo a
  pub hi : (a : ℕ) → T (has g.jobs a) → s.hi a + g.long ≤ till

-- any job of one group and any of the other interfere, and each keeps the other away
pub record Against (P : Search) (s : St) (g h : Group) : Type 0 where
  pub hit : (a b : ℕ) → T (has g.jobs a) → T (has h.jobs b) → T (interfere P.problem a b)
  pub there : (a b : ℕ) → T (has g.jobs a) → T (has h.jobs b) → Away P s a g.long b
  pub back : (a b : ℕ) → T (has g.jobs a) → T (has h.jobs b) → Away P s b h.long a

-- the group and each of the list exclude each other
abbrev pub AllAgainst : Search → St → Group → List Group → Type 0
AllAgainst P s g [] = Unit {0}
AllAgainst P s g (h ∷ l) = Against P s g h × AllAgainst P s g l

-- every group is placed, and any two exclude each other
abbrev pub CrowdOf : Search → St → (from till : ℕ) → List Group → Type 0
CrowdOf P s from till [] = Unit {0}
CrowdOf P s from till (g ∷ l) = GroupPlaced P s from till g × AllAgainst P s g l × CrowdOf P s from till l

-- how long all groups keep others away, one after the other
unfoldable pub total : List Group → ℕ
total [] = 0
total (g ∷ l) = g.long + total l

-- ── a crowd that grows by a test on words ──

-- a group whose length is right against all jobs of the word but its own
pub record SoundGroup (P : Search) (s : St) (all : ℕ) (g : Group) : Type 0 where
  pub some : SomeOf P s g.jobs
  pub inner : (a : ℕ) → T (has g.jobs a) → T (has all a)
  pub spaced : (a b : ℕ) → T (has g.jobs a) → T (has all b) → (T (has g.jobs b) → ⊥) → Away P s a g.long b

-- what a walk knows of the group: the jobs that interfere with all of its own, its least lo, and where it is gone
pub record GroupSeen (P : Search) (s : St) (g : Group) (others low gone : ℕ) : Type 0 where
  pub hits : (a b : ℕ) → T (has g.jobs a) → T (has others b) → T (interfere P.problem a b)
  pub lo : (a : ℕ) → T (has g.jobs a) → low ≤ s.lo a
  pub hi : (a : ℕ) → T (has g.jobs a) → s.hi a + g.long ≤ gone

-- every group of the list is sound, and its jobs are in the word
abbrev pub AllIn : Search → St → (all members : ℕ) → List Group → Type 0
AllIn P s all w [] = Unit {0}
AllIn P s all w (g ∷ l) = (SoundGroup P s all g × ((a : ℕ) → T (has g.jobs a) → T (has w a))) × AllIn P s all w l

-- a crowd by its running sum and the word of its jobs
pub record Pile (P : Search) (s : St) (all from till sum members : ℕ) : Type 0 where
  pub groups : List Group
  pub crowd : CrowdOf P s from till groups
  pub known : AllIn P s all members groups
  pub sum_is : total groups ≡ sum
  pub after : from ≤ till
  pub lo : (a : ℕ) → T (has members a) → from ≤ s.lo a
  pub hi : (a : ℕ) → T (has members a) → s.hi a ≤ till

-- ── a job beside a crowd ──

-- k and any job of the group interfere, and each keeps the other away: k for n
pub record Beside (P : Search) (s : St) (k n : ℕ) (g : Group) : Type 0 where
  pub hit : (a : ℕ) → T (has g.jobs a) → T (interfere P.problem k a)
  pub there : (a : ℕ) → T (has g.jobs a) → Away P s k n a
  pub back : (a : ℕ) → T (has g.jobs a) → Away P s a g.long k

-- k stands beside every group of the list
abbrev pub AllBeside : Search → St → (k n : ℕ) → List Group → Type 0
AllBeside P s k n [] = Unit {0}
AllBeside P s k n (g ∷ l) = Beside P s k n g × AllBeside P s k n l

-- every job of the group is over before k
abbrev pub Precede : Search → St → (k : ℕ) → Group → Type 0
Precede P s k g = (a : ℕ) → T (has g.jobs a) → Sure P s a k

-- F is so of every group of the list
abbrev pub All : (Group → Type 0) → List Group → Type 0
All F [] = Unit {0}
All F (g ∷ l) = F g × All F l
