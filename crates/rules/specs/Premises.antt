-- What the laws of the rules ask of a table, and the words they are said in.
-- Assumes nothing.
use Rattle.std.specs.Prelude.{ℕ, zero, suc, ◌≤◌, ◌<◌, ◌+◌, max, T, ◌⊎◌, ◌≢◌}
use Rattle.facts.specs.Facts.{has}
use Rattle.rules.specs.Table.{Problem}
use Rattle.rules.specs.Plans.{Plan, In, finish}
use Rattle.rules.specs.Supports.{Consumer}
use Rattle.rules.specs.Sums.{sum}

-- job i adds p
abbrev pub adds : Problem → ℕ → ℕ → Type 0
adds P i p = T (has (P.additions i) p)

-- job i deletes p
abbrev pub deletes : Problem → ℕ → ℕ → Type 0
deletes P i p = T (has (P.deletions i) p)

-- every fact of the word is below n
abbrev pub Below : (n w : ℕ) → Type 0
Below n w = (p : ℕ) → T (has w p) → p < n

-- what the laws need of a table, all of which checks 4 to 8 give
pub record InOrder (P : Problem) : Type 0 where
  pub long : (i : ℕ) → i < P.count → 1 ≤ P.duration i
  pub pure : (i p : ℕ) → i < P.count → adds P i p → deletes P i p → ⊥
  pub needed : (i : ℕ) → i < P.count → Below 64 (P.conditions i)
  pub added : (i : ℕ) → i < P.count → Below 64 (P.additions i)
  pub deleted : (i : ℕ) → i < P.count → Below 64 (P.deletions i)
  pub opened : Below 64 P.opening
  pub wanted : Below 64 P.goals

-- every job in the plan that deletes p, other than the consumer, finishes `lag` before `from` or starts the consumer's lag after it
abbrev pub Clear : Problem → Plan → ℕ → Consumer → ℕ → ℕ → Type 0
Clear P s p c lag from = (d : ℕ) → In P s d → deletes P d p → d ≢ c.me → (finish P s d + lag ≤ from) ⊎ (c.till + c.lag ≤ s d)

-- job a supports p for the consumer
pub record ByJob (P : Problem) (s : Plan) (p : ℕ) (c : Consumer) (a : ℕ) : Type 0 where
  pub there : In P s a
  pub gives : adds P a p
  pub before : finish P s a + c.lag ≤ c.at
  pub clear : Clear P s p c P.gap (s a)

-- the greatest of f 0, .., f (n - 1), 0 for none
unfoldable pub most : (ℕ → ℕ) → ℕ → ℕ
most f zero = 0
most f (suc k) = max (f k) (most f k)

-- the time that is always enough: the latest release, and every duration with its gap
abbrev pub enough_time : Problem → ℕ
enough_time P = most P.release P.count + sum (λ a. P.duration a + P.gap) P.count
