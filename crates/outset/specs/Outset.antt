-- What the contracts of the lists that the search reads, and of its first state, cite.
-- Assumes nothing.
use Rattle.std.specs.Prelude.{◌≡◌, ◌↔◌, List, ℕ, ◌+◌, ◌*◌, ◌-◌, ◌%◌, ◌≤◌, ◌<◌, ◌^◌, T, get_or, Result, MatchResult}
use Rattle.facts.specs.Facts.{has}
use Rattle.rules.specs.Table.{Problem}
use Rattle.rules.specs.Premises.{InOrder}
use Rattle.rules.specs.Clashes.{interfere}
use Rattle.rules.specs.Plans.{Plan, Valid}
use Rattle.rules.specs.Order.{NoPlan}
use Rattle.tables.specs.Tables.{job_at, problem}
use Rattle.tables.specs.declared.Action.{Action}
use Rattle.tables.specs.declared.Loaded.{Loaded}
use Rattle.tables.specs.declared.Ask.{Ask}
use Rattle.entries.specs.Entries.{entry}
use Rattle.reach.specs.Rows.{FitIn}
use Rattle.states.specs.State.{Search, Good, Fits}
use Rattle.cells.specs.View.{view}
use Rattle.lent.specs.Lent.{Cols, wait_of, led_of, Spacing, Listed, Lent}
use Rattle.turns.specs.Checked.{Leader}

-- ── words of jobs ──

-- j is a job of the table, and fact p is in its word
abbrev pub Among : Loaded → Ask → (word : Action → ℕ) (p j : ℕ) → Type 0
Among l q word p j = (j < q.jobs) × T (has (word (job_at l j)) p)

-- b is a job of the table that interferes with a
abbrev pub Hit : Loaded → Ask → (a b : ℕ) → Type 0
Hit l q a b = (b < q.jobs) × T (interfere (problem l q) a b)

-- ── the table, place by place ──

-- A below the place n, B from it on
pub record Upto (i n : ℕ) (A B : Type 0) : Type 0 where
  pub here : i < n → A
  pub there : n ≤ i → B

-- the word x at place i: conditions, goals, opening, adders, killers, durations with the gap, hits, estimates, the count and the gap
abbrev pub Stands : Loaded → Ask → (est : List ℕ) (i x : ℕ) → Type 0
Stands l q est i x =
    Upto i 24 (x ≡ (job_at l i).conditions)
    (Upto i 25 (x ≡ q.goals)
    (Upto i 26 (x ≡ q.opening)
    (Upto i 90 (Cols (Among l q (λ a. a.additions) (i - 26)) (x % 2 ^ 32) 24)
    (Upto i 154 (Cols (Among l q (λ a. a.deletions) (i - 90)) (x % 2 ^ 32) 24)
    (Upto i 178 (x % 2 ^ 32 ≡ (job_at l (i - 154)).duration + (problem l q).gap)
    (Upto i 202 (Cols (Hit l q (i - 178)) (x % 2 ^ 32) 24)
    (Upto i 226 (x % 2 ^ 32 ≡ get_or est (i - 202) 0)
    (Upto i 227 (x ≡ q.jobs)
    (x ≡ (problem l q).gap)))))))))

-- the first n places of the table L
abbrev pub Lists : Loaded → Ask → (est L : List ℕ) (n : ℕ) → Type 0
Lists l q est L n = (i : ℕ) → i < n → Stands l q est i (get_or L i 0)

-- the waits of job a are the first n numbers of the row, and what stands before them is as it was
pub record RowPut (row : List ℕ) (a n : ℕ) (L K : List ℕ) : Type 0 where
  pub new : (b : ℕ) → b < n → wait_of K a b ≡ entry row b
  pub old : (i : ℕ) → i < 25 * a + 228 → get_or K i 0 ≡ get_or L i 0

-- the waits of the first n jobs are so in every valid plan, and the words before all waits are as they were
pub record WaitsPut (P : Problem) (n : ℕ) (L K : List ℕ) : Type 0 where
  pub apart : InOrder P → (a : ℕ) → a < n → Spacing P a (wait_of K a)
  pub old : (i : ℕ) → i < 228 → get_or K i 0 ≡ get_or L i 0

-- each of the first n jobs leads the job that the table has for it, if that is one; the words before these are as they were
pub record LeadsPut (l : Loaded) (q : Ask) (n : ℕ) (L K : List ℕ) : Type 0 where
  pub leads : (a : ℕ) → a < n → led_of K a < 24 → Leader l q a (led_of K a)
  pub old : (i : ℕ) → i < 828 → get_or K i 0 ≡ get_or L i 0

-- ── where a job may begin ──

-- the estimate e, or 65,535 where the conditions c are not pairwise in the rows
pub record Waits (rows : List ℕ) (c e x : ℕ) : Type 0 where
  pub fit : FitIn rows c 64 → x ≡ e
  pub unfit : (FitIn rows c 64 → ⊥) → x ≡ 65535

-- the same of the first n jobs
abbrev pub AllWait : (rows : List ℕ) → Loaded → (base est : List ℕ) (n : ℕ) → Type 0
AllWait rows l base est n = (j : ℕ) → j < n → Waits rows (job_at l j).conditions (get_or base j 0) (get_or est j 0)

-- ── the whole ──

-- every valid plan fits the state
abbrev pub FitsAll : Search → List ℕ → Type 0
FitsAll P s = (Q : Plan) → Good P Q → Fits P Q (view s)

-- a valid plan of the problem that is listed
abbrev pub ListedPlan : List ℕ → Search → Plan → Type 0
ListedPlan L P Q = Lent L P × Good P Q

-- what is searched for the table l: lists of a problem that has the same valid plans
pub record SearchedFor (l : Loaded) (q : Ask) (tables : List ℕ) : Type 0 where
  pub searched : Problem
  pub jobs : searched.count ≡ q.jobs
  pub listed : Listed tables searched
  pub same : (bound : ℕ) (s : Plan) → Valid (problem l q) bound s ↔ Valid searched bound s

-- that, and where it is refused no plan is valid
abbrev pub SetsOut : Loaded → Ask → Result (List ℕ) (List ℕ) → Type 0
SetsOut l q r = MatchResult r (SearchedFor l q) (λ tables. SearchedFor l q tables × ((bound : ℕ) → NoPlan (problem l q) bound))
