-- The problem of a search as one list of words: what stands where, and when the list is the problem's.
-- Assumes nothing.
use Rattle.std.specs.Prelude.{◌≡◌, List, ℕ, ◌+◌, ◌*◌, ◌%◌, ◌≤◌, ◌<◌, ◌^◌, T, get_or}
use Rattle.facts.specs.Facts.{has}
use Rattle.rules.specs.Clashes.{interfere}
use Rattle.rules.specs.Plans.{Plan, In, Over, Valid}
use Rattle.rules.specs.Table.{Problem}
use Rattle.rules.specs.Premises.{InOrder, adds, deletes}
use Rattle.states.specs.State.{Search, Leads}

-- ── places ──

-- a word of jobs, or a number, is the lower half of its word
abbrev pub half : List ℕ → ℕ → ℕ
half T i = get_or T i 0 % 2 ^ 32

-- the conditions of job b, for 24 the goals
abbrev pub wants_of : List ℕ → ℕ → ℕ
wants_of T b = get_or T b 0

-- the opening facts
abbrev pub opening_of : List ℕ → ℕ
opening_of T = get_or T 25 0

-- the jobs that add the fact p, and those that delete it
abbrev pub adders_of : List ℕ → ℕ → ℕ
adders_of T p = half T (p + 26)

-- the jobs that delete the fact p
abbrev pub killers_of : List ℕ → ℕ → ℕ
killers_of T p = half T (p + 90)

-- how long job a takes, with the gap behind it
abbrev pub step_of : List ℕ → ℕ → ℕ
step_of T a = half T (a + 154)

-- the jobs that interfere with a
abbrev pub hits_of : List ℕ → ℕ → ℕ
hits_of T a = half T (a + 178)

-- where job a begins at the earliest
abbrev pub est_of : List ℕ → ℕ → ℕ
est_of T a = half T (a + 202)

-- how long after the start of job a job b starts at the earliest, if a is over before it; for 24, how long the plan lasts
abbrev pub wait_of : List ℕ → ℕ → ℕ → ℕ
wait_of T a b = half T (25 * a + b + 228)

-- the job that job a leads in the first plan, or 24
abbrev pub led_of : List ℕ → ℕ → ℕ
led_of T a = half T (a + 828)

-- the job count
abbrev pub count_of : List ℕ → ℕ
count_of T = half T 226

-- the gap between jobs that bind
abbrev pub gap_of : List ℕ → ℕ
gap_of T = half T 227

-- the bound
abbrev pub bound_of : List ℕ → ℕ
bound_of T = half T 852

-- ── the list is the problem's ──

-- the word of the numbers below n of which f is so
pub record Cols (f : ℕ → Type 0) (w n : ℕ) : Type 0 where
  pub of : (i : ℕ) → T (has w i) → (i < n) × f i
  pub at : (i : ℕ) → i < n → f i → T (has w i)

-- d is a job that deletes p; a is one that adds it
abbrev pub Kills : Problem → ℕ → ℕ → Type 0
Kills P p d = (d < P.count) × deletes P d p

-- a is a job that adds p
abbrev pub Gives : Problem → ℕ → ℕ → Type 0
Gives P p a = (a < P.count) × adds P a p

-- in every valid plan with job a: where it is over before a job b, that starts x b or more after a; the bound is x 24 or more after it
pub record Spacing (P : Problem) (a : ℕ) (x : ℕ → ℕ) : Type 0 where
  pub starts : (bound : ℕ) (Q : Plan) → Valid P bound Q → In P Q a → (b : ℕ) → In P Q b → Over P Q a b → Q a + x b ≤ Q b
  pub ends : (bound : ℕ) (Q : Plan) → Valid P bound Q → In P Q a → Q a + x 24 ≤ bound

-- all but the bound is the problem's, and no job begins before its release
pub record Listed (L : List ℕ) (P : Problem) : Type 0 where
  pub wf : InOrder P
  pub few : P.count ≤ 24
  pub count : P.count ≡ count_of L
  pub opening : P.opening ≡ opening_of L
  pub conds : (b : ℕ) → b < 24 → P.conditions b ≡ wants_of L b
  pub goals : P.goals ≡ wants_of L 24
  pub adders : (p : ℕ) → p < 64 → Cols (Gives P p) (adders_of L p) 24
  pub killers : (p : ℕ) → p < 64 → Cols (Kills P p) (killers_of L p) 24
  pub steps : (a : ℕ) → a < 24 → P.duration a + P.gap ≡ step_of L a
  pub clash : (a b : ℕ) → a < 24 → T (has (hits_of L a) b) → T (interfere P a b)
  pub meets : (a b : ℕ) → a < P.count → b < P.count → T (interfere P a b) → T (has (hits_of L a) b)
  pub early : (bound : ℕ) (Q : Plan) → Valid P bound Q → (j : ℕ) → In P Q j → est_of L j ≤ Q j
  pub apart : (a : ℕ) → a < P.count → Spacing P a (wait_of L a)
  pub leads : (a : ℕ) → a < 24 → led_of L a < 24 → (bound : ℕ) → Leads (record { problem = P; bound = bound }) a (led_of L a)
  pub gap : P.gap ≡ gap_of L
  pub release : (j : ℕ) → j < P.count → P.release j ≤ est_of L j

-- so is the bound, which is no mark
pub record Lent (L : List ℕ) (P : Search) : Type 0 where
  pub listed : Listed L P.problem
  pub bound : P.bound ≡ bound_of L
  pub short : P.bound < 65535
