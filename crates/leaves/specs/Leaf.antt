-- What the contracts of settling and of the leaf cite.
-- Assumes nothing.
use Rattle.std.specs.Prelude.{◌≡◌, Bool, true, false, List, ℕ, ◌+◌, ◌-◌, ◌≤◌, ◌<◌, ◌^◌, T, get_or, length, Option, MatchOption}
use Rattle.rules.specs.Plans.{Plan}
use Rattle.rules.specs.Sums.{sum}
use Rattle.states.specs.State.{Search, Dead, PlanIn}
use Rattle.cells.specs.View.{view, Prunes}
use Rattle.lent.specs.Lent.{step_of, est_of, count_of, gap_of, bound_of, Lent}
use Rattle.lent.specs.Consumers.{NoFlaw}
use Rattle.leaves.specs.declared.Pair.{Pair}

-- a is over before b, both are inside, and b could not start that early
pub record Violated (s L : List ℕ) (a b : ℕ) : Type 0 where
  pub first : a < 24
  pub second : b < 24
  pub inside : T ((view s).inside a)
  pub there : T ((view s).inside b)
  pub order : T ((view s).sure a b)
  pub late : (view s).lo b < (view s).lo a + step_of L a

-- no job is violated with b
abbrev pub RowSteady : (s L : List ℕ) (b : ℕ) → Type 0
RowSteady s L b = (a : ℕ) → Violated s L a b → ⊥

-- a job that is violated with b, or none
abbrev pub ViolatedRow : (s L : List ℕ) (b : ℕ) → Option ℕ → Type 0
ViolatedRow s L b found = MatchOption found (RowSteady s L b) (λ a. Violated s L a b)

-- the lower bounds are starts over the sure pairs
abbrev pub Steady : (s L : List ℕ) → Type 0
Steady s L = (b : ℕ) → RowSteady s L b

-- a violated pair, or none
abbrev pub Finds : (s L : List ℕ) → Option Pair → Type 0
Finds s L found = MatchOption found (Steady s L) (λ c. Violated s L c.first c.second)

-- no job of the first n may start before its estimate
abbrev pub NoneEarly : (s L : List ℕ) (n : ℕ) → Type 0
NoneEarly s L n = (j : ℕ) → j < n → est_of L j ≤ (view s).lo j

-- the lower bound of job j was raised to its estimate
pub record BeginsAt (L s r : List ℕ) (j : ℕ) : Type 0 where
  pub prunes : Prunes (Lent L) s r
  pub here : est_of L j ≤ (view r).lo j

-- the lower bounds of the first n jobs were raised to their estimates
pub record BegunBy (L s r : List ℕ) (n : ℕ) : Type 0 where
  pub prunes : Prunes (Lent L) s r
  pub begun : NoneEarly r L n

-- the room that lower bounds have
unfoldable pub room : List ℕ → ℕ
room s = sum (λ j. 2 ^ 32 - (view s).lo j) 24

-- a lower bound is raised, or no plan is left
pub record Raised (L s r : List ℕ) (ok : Bool) : Type 0 where
  pub prunes : Prunes (Lent L) s r
  pub less : ok ≡ true → room r < room s
  pub dead : ok ≡ false → (P : Search) → Lent L P → Dead P (view r)

-- the lower bounds are settled from the estimates on, or no plan is left
pub record AtRest (L s : List ℕ) (ok : Bool) : Type 0 where
  pub steady : ok ≡ true → Steady s L
  pub begun : ok ≡ true → NoneEarly s L 24
  pub dead : ok ≡ false → (P : Search) → Lent L P → Dead P (view s)

-- the lower bounds were raised until they are settled, or no plan is left
pub record SettledBy (L s r : List ℕ) (ok : Bool) : Type 0 where
  pub prunes : Prunes (Lent L) s r
  pub rest : AtRest L r ok

-- job j is of the table, not barred, in its window and in the bound, which needs no gap
pub record InPlace (s L : List ℕ) (j : ℕ) : Type 0 where
  pub below : j < count_of L
  pub free : T ((view s).barred j) → ⊥
  pub window : (view s).lo j ≤ (view s).hi j
  pub ends : (view s).lo j + step_of L j ≤ bound_of L + gap_of L

-- job j is in place, if it is inside
abbrev pub InPlaceIf : (s L : List ℕ) (j : ℕ) → Type 0
InPlaceIf s L j = T ((view s).inside j) → InPlace s L j

-- so is each of the first n jobs
abbrev pub AllInPlace : (s L : List ℕ) (n : ℕ) → Type 0
AllInPlace s L n = (j : ℕ) → j < n → InPlaceIf s L j

-- the answer of a check of a state: X, or no plan is left
pub record Verifies (Ok : Search → Type 0) (s : List ℕ) (b : Bool) (X : Type 0) : Type 0 where
  pub fine : b ≡ true → X
  pub dead : b ≡ false → (P : Search) → Ok P → Dead P (view s)

-- the start x of a job: its lower bound t, which is none above 65,535, or 65,535 where it is not inside
pub record StartIs (inside : Bool) (t x : ℕ) : Type 0 where
  pub in? : T inside → t ≤ 65535 → x ≡ t
  pub out : (T inside → ⊥) → x ≡ 65535

-- the starts of the first n jobs
pub record StartsOf (s : List ℕ) (n : ℕ) (out : List ℕ) : Type 0 where
  pub size : length out ≡ 24
  pub each : (j : ℕ) → j < n → StartIs ((view s).inside j) ((view s).lo j) (get_or out j 65535)

-- the plan of these starts; a job behind them is out
abbrev pub plan_of : List ℕ → Plan
plan_of l j = get_or l j 65535

-- a plan that stays in the state, as starts; or none is left, and the starts are as they were
pub record Resolves (Ok : Search → Type 0) (s old new : List ℕ) (found : Bool) : Type 0 where
  pub plan : found ≡ true → (P : Search) → Ok P → PlanIn P (view s) (plan_of new)
  pub size : found ≡ true → length new ≡ 24
  pub none : found ≡ false → (P : Search) → Ok P → Dead P (view s)
  pub same : found ≡ false → new ≡ old

-- the state is a plan: its lower bounds are settled from the estimates on, and it has no flaw
pub record LeafOk (s L : List ℕ) : Type 0 where
  pub steady : Steady s L
  pub begun : NoneEarly s L 24
  pub whole : (P : Search) → Lent L P → NoFlaw P s L
