-- How the bytes of supports and pairs are made.
-- Assumes nothing.
use Rattle.std.specs.Prelude.{◌≡◌, Bool, true, false, ◌&&◌, List, ◌++◌, ℕ, ◌+◌, ◌<◌, ltb, length, get_or}
use Rattle.facts.specs.Facts.{has}
use Rattle.facts.specs.Least.{least, any}
use Rattle.facts.specs.Words.{Word}
use Rattle.rules.specs.Table.{Problem}
use Rattle.rules.specs.Plans.{Plan, in_plan}
use Rattle.rules.specs.Pairs.{feeds, binds, joined, pair_if}
use Rattle.tables.specs.Tables.{filled, written}
use Rattle.named.specs.declared.Row.{Row}
use Rattle.bindings.specs.declared.Before.{Before}

-- ── the bytes of a row ──

-- the byte of a row: Start, else a job, else 255
unfoldable pub pick_byte : (start? job? : Bool) → ℕ → ℕ
pick_byte true b a = 254
pick_byte false true a = a
pick_byte false false a = 255

-- the byte of fact p in a row by words
unfoldable pub row_byte : Row → (n p : ℕ) → ℕ
row_byte r n p = pick_byte (has r.start p) (any (λ a. has (get_or r.by a 0) p) n) (least (λ a. has (get_or r.by a 0) p) n)

-- the row is written from base on, behind the bytes of any table f below base
abbrev pub FillsRow : Row → (n base : ℕ) → (before after : List ℕ) → Type 0
FillsRow r n base before after =
    (f : ℕ → ℕ) (xs : List ℕ) → ((p : ℕ) → p < 64 → row_byte r n p ≡ f (base + p)) → before ≡ filled f base xs → after ≡ filled f (base + 64) xs

-- ── the jobs that come before another ──

-- of each job b in the plan, the jobs that are named supports of its conditions
abbrev pub FeedersOf : Problem → Plan → Before → Type 0
FeedersOf P s f = (b a : ℕ) → b < P.count → a < P.count → has (get_or f.of b 0) a ≡ (in_plan s b && feeds P s a b)

-- the jobs that bind job b
abbrev pub Binders : Problem → Plan → (b w : ℕ) → Type 0
Binders P s b w = Word (λ a. ltb a P.count && binds P s a b) w

-- of each job b, the jobs that bind it
abbrev pub BindersOf : Problem → Plan → Before → Type 0
BindersOf P s f = (b : ℕ) → b < P.count → Binders P s b (get_or f.of b 0)

-- ── the list of pairs ──

-- the pairs of job a with the jobs below n
abbrev pub pair_row : Problem → Plan → (a n : ℕ) → List ℕ
pair_row P s a n = joined (λ b. pair_if (binds P s a b) a b) n

-- the list ys is written from the place `at` on, behind whatever list stands before it; r is the next place
pub record Appends (ys : List ℕ) (at : ℕ) (before after : List ℕ) (r : ℕ) : Type 0 where
  pub next : r ≡ at + length ys
  pub list : (xs old : List ℕ) → at ≡ length xs → before ≡ written xs old → after ≡ written (xs ++ ys) old
