-- What the contracts of the least bound cite: one bound, where a plan ends, ranges of bounds.
-- Assumes nothing.
use Rattle.std.specs.Prelude.{◌≡◌, ◌≢◌, Bool, true, false, List, ℕ, ◌+◌, ◌-◌, ◌≤◌, ◌<◌, T, length, Option, MatchOption}
use Rattle.rules.specs.Table.{Problem}
use Rattle.rules.specs.Plans.{Plan, in_plan, Valid}
use Rattle.rules.specs.Order.{NoPlan}
use Rattle.lent.specs.Lent.{Listed}
use Rattle.leaves.specs.Leaf.{plan_of}
use Rattle.bounds.specs.declared.Range.{Range}

-- ── one bound ──

-- the lists are those of some problem, and the bound is no mark
pub record Served (L : List ℕ) (bound : ℕ) : Type 0 where
  pub served : Problem
  pub listed : Listed L served
  pub short : bound < 65535

-- the lists L and K are those of the same problems
pub record SameLists (L K : List ℕ) : Type 0 where
  pub to : (P : Problem) → Listed L P → Listed K P
  pub back : (P : Problem) → Listed K P → Listed L P

-- there is no plan within any bound below low
abbrev pub NoneBelow : (L : List ℕ) (low : ℕ) → Type 0
NoneBelow L low = (P : Problem) → Listed L P → (c : ℕ) → c < low → NoPlan P c

-- the starts are a plan within the bound
pub record SomeAt (L : List ℕ) (bound : ℕ) (starts : List ℕ) : Type 0 where
  pub valid : (P : Problem) → Listed L P → Valid P bound (plan_of starts)
  pub size : length starts ≡ 24

-- a plan within the bound; or there is none, and the starts are as they were
pub record AnyAt (L : List ℕ) (bound : ℕ) (old K new : List ℕ) (found : Bool) : Type 0 where
  pub some : found ≡ true → SomeAt L bound new
  pub none : found ≡ false → NoneBelow L (bound + 1)
  pub same : found ≡ false → new ≡ old
  pub kept : SameLists L K

-- there is no plan within the bound, if the answer says so
pub record Hopeless (L : List ℕ) (bound : ℕ) (K : List ℕ) (r : Bool) : Type 0 where
  pub none : r ≡ true → NoneBelow L (bound + 1)
  pub kept : SameLists L K

-- ── where a plan ends ──

-- the later of an end and that of a job, if it is in
pub record Later (start dur end r : ℕ) : Type 0 where
  pub keeps : end ≤ r
  pub after : start ≢ 65535 → start + dur ≤ r
  pub least : (b : ℕ) → end ≤ b → (start ≢ 65535 → start + dur ≤ b) → r ≤ b

-- e is where the last of the jobs below n ends
pub record LastEnd (P : Problem) (s : Plan) (n e : ℕ) : Type 0 where
  pub after : (j : ℕ) → j < n → T (in_plan s j) → s j + P.duration j ≤ e
  pub least : (b : ℕ) → ((j : ℕ) → j < n → T (in_plan s j) → s j + P.duration j ≤ b) → e ≤ b

-- ── the least bound ──

-- the range r is smaller, and there is no plan below it if there was none below low
pub record Probes (L : List ℕ) (low high : ℕ) (K : List ℕ) (r : Range) : Type 0 where
  pub none : NoneBelow L low → NoneBelow L r.low
  pub within : r.low ≤ r.high
  pub top : r.high ≤ high
  pub less : r.high - r.low < high - low
  pub kept : SameLists L K

-- there is no plan below b, which is at most top
pub record LowEnd (L : List ℕ) (top : ℕ) (K : List ℕ) (b : ℕ) : Type 0 where
  pub none : NoneBelow L b
  pub within : b ≤ top
  pub kept : SameLists L K

-- the range holds the least bound, and the starts are a plan within its high end
pub record Bracketed (L : List ℕ) (low high : ℕ) (starts : List ℕ) : Type 0 where
  pub none : NoneBelow L low
  pub some : SomeAt L high starts
  pub within : low ≤ high

-- the range that was found holds the least bound; or none was, and there is no plan within top
pub record Rises (L : List ℕ) (top : ℕ) (K starts : List ℕ) (found : Option Range) : Type 0 where
  pub held : MatchOption found (NoneBelow L (top + 1)) (λ r. Bracketed L r.low r.high starts × (r.high ≤ top))
  pub kept : SameLists L K

-- the range r holds the least bound and is smaller
pub record Halves (L : List ℕ) (low high : ℕ) (K starts : List ℕ) (r : Range) : Type 0 where
  pub held : Bracketed L r.low r.high starts
  pub top : r.high ≤ high
  pub less : r.high - r.low < high - low
  pub kept : SameLists L K

-- b is the least bound, at most high, and the starts are a plan within it
pub record Narrows (L : List ℕ) (high : ℕ) (K starts : List ℕ) (b : ℕ) : Type 0 where
  pub held : Bracketed L b b starts
  pub within : b ≤ high
  pub kept : SameLists L K

-- the bound that was found is the least, at most top, and the starts are a plan within it; or none was, and there is no plan within top
pub record LeastWith (L : List ℕ) (top : ℕ) (K starts : List ℕ) (found : Option ℕ) : Type 0 where
  pub held : MatchOption found (NoneBelow L (top + 1)) (λ b. Bracketed L b b starts × (b ≤ top))
  pub kept : SameLists L K
