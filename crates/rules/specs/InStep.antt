-- What the two words of started and finished jobs say by themselves, with no log.
-- Assumes nothing.
use Rattle.std.specs.Prelude.{Bool, cond, not, ◌&&◌, ◌||◌, ℕ, T, eqb, ltb}
use Rattle.facts.specs.Facts.{has}
use Rattle.facts.specs.Least.{any}
use Rattle.facts.specs.Words.{Word, Covers}
use Rattle.rules.specs.Table.{Problem}
use Rattle.rules.specs.Plans.{Plan, in_plan}
use Rattle.rules.specs.Pairs.{binds}

-- a job that binds j has not finished
unfoldable pub still_bound : Problem → Plan → (ended j : ℕ) → Bool
still_bound P s ended j = any (λ a. binds P s a j && not (has ended a)) P.count

-- job j is in the plan and is not still bound
unfoldable pub freed : Problem → Plan → (ended j : ℕ) → Bool
freed P s ended j = ltb j P.count && (in_plan s j && not (still_bound P s ended j))

-- what has finished has started, and what has started was free to
pub record InStep (P : Problem) (s : Plan) (started ended : ℕ) : Type 0 where
  pub begun : Covers started ended
  pub free : (j : ℕ) → T (has started j) → T (freed P s ended j)

-- event k of job j may come: a start of a free job that has not started, or a finish of one that has started and not finished
unfoldable pub can_come : (free started ended k j : ℕ) → Bool
can_come free started ended k j = cond (eqb k 0) (has free j && not (has started j)) (eqb k 1 && (has started j && not (has ended j)))

-- the words after event k of job j: its own bit in its own word
abbrev pub WithEvent : (started ended k j started' ended' : ℕ) → Type 0
WithEvent started ended k j started' ended' = Word (λ i. has started i || (eqb k 0 && eqb i j)) started' × Word (λ i. has ended i || (eqb k 1 && eqb i j)) ended'

-- the plan with the finished jobs alone
unfoldable pub finished_of : (ended : ℕ) → Plan → Plan
finished_of ended s j = cond (has ended j) (s j) 65535
