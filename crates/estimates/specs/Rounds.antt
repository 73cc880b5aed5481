-- What the steps towards the estimates promise.
-- Assumes nothing.
use Rattle.std.specs.Prelude.{◌≡◌, Bool, cond, not, ◌&&◌, ◌||◌, List, ℕ, zero, suc, ◌≤◌, ◌<◌, min, max, T, ltb, length}
use Rattle.facts.specs.Facts.{has}
use Rattle.facts.specs.Least.{any}
use Rattle.rules.specs.Table.{Problem}
use Rattle.rules.specs.Estimates.{plus, cheapest, cost, dearest}
use Rattle.entries.specs.Entries.{entry}

-- the greatest of the costs of the facts below k that the word has
unfoldable pub greatest : (word : ℕ) → (costs : List ℕ) → ℕ → ℕ
greatest w costs zero = 0
greatest w costs (suc p) = max (cond (has w p) (entry costs p) 0) (greatest w costs p)

-- what fact p costs where the lag comes to the cost of one that is not open
abbrev pub lagging : Problem → (est : ℕ → ℕ) → (lag p : ℕ) → ℕ
lagging P est lag p = cond (has P.opening p) 0 (plus (cost P est p) lag)

-- the costs c of the facts below k
abbrev pub Costs : (c : ℕ → ℕ) → (costs : List ℕ) → ℕ → Type 0
Costs c costs k = (p : ℕ) → p < k → entry costs p ≡ c p

-- r is the greatest of the costs of the facts of the word
pub record CostOf (P : Problem) (est : ℕ → ℕ) (w r : ℕ) : Type 0 where
  pub costs : List ℕ
  pub are : Costs (cost P est) costs 64
  pub is : r ≡ greatest w costs 64

-- what a round makes of the estimates of the jobs below k
abbrev pub NextRound : Problem → (est : ℕ → ℕ) → (next : List ℕ) → ℕ → Type 0
NextRound P est next k = (i : ℕ) → i < k → entry next i ≡ dearest P est i 64

-- ── facts that get cheaper ──

-- the facts that pass f cost c at most in the new costs; r holds those of the word w and those that got cheaper
pub record Lowers (f : ℕ → Bool) (c w : ℕ) (old new : List ℕ) (r : ℕ) : Type 0 where
  pub costs : (p : ℕ) → p < 64 → entry new p ≡ cond (f p) (min c (entry old p)) (entry old p)
  pub cheaper : (p : ℕ) → p < 64 → has r p ≡ (has w p || ltb (entry new p) (entry old p))

-- what fact p costs where the jobs below k have come from their estimates to lower next ones
abbrev pub amid : Problem → (next est : ℕ → ℕ) → (lag k p : ℕ) → ℕ
amid P next est lag k p = cond (has P.opening p) 0 (plus (min (cheapest P next p k) (cheapest P est p P.count)) lag)

-- the new costs are those where the jobs below k have come to their next estimates, none is higher, and r holds the facts that got cheaper
pub record Cheaper (P : Problem) (next est : ℕ → ℕ) (lag k : ℕ) (old new : List ℕ) (r : ℕ) : Type 0 where
  pub costs : Costs (amid P next est lag k) new 64
  pub falls : (p : ℕ) → p < 64 → entry new p ≤ entry old p
  pub cheaper : (p : ℕ) → p < 64 → has r p ≡ ltb (entry new p) (entry old p)

-- ── jobs that are looked at ──

-- the first estimate of a job: its release if its conditions are open, else 65,535
abbrev pub at_first : (conditions opening release : ℕ) → ℕ
at_first conditions opening release = cond (any (λ p. has conditions p && not (has opening p)) 64) 65535 release

-- a job is due for a look where one of its conditions got cheaper
abbrev pub due : (conditions cheaper : ℕ) → Bool
due conditions cheaper = any (λ p. has conditions p && has cheaper p) 64

-- jobs that are not due have the estimates that a round would give them
abbrev pub Rests : Problem → (est : ℕ → ℕ) → (cheaper : ℕ) → Type 0
Rests P est cheaper = (i : ℕ) → i < P.count → (T (due (P.conditions i) cheaper) → ⊥) → est i ≡ dearest P est i 64

-- a round: the next estimates, the costs by them, and the facts that got cheaper
pub record AfterRound (P : Problem) (est old next new : List ℕ) (r : ℕ) : Type 0 where
  pub room : length next ≡ 24
  pub is : NextRound P (entry est) next P.count
  pub costs : Cheaper P (λ i. dearest P (entry est) i 64) (entry est) P.gap P.count old new r
