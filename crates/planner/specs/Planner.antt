-- What the planner's contracts cite.
-- Assumes nothing.
use Rattle.std.specs.Prelude.{◌≡◌, Bool, true, false, List, ℕ, ◌<◌, T, length}
use Rattle.rules.specs.Plans.{Plan}
use Rattle.rules.specs.Order.{First}
use Rattle.states.specs.State.{Search, HasJob, Fits, Left, More, PlanIn, Prefix}
use Rattle.cells.specs.View.{view}
use Rattle.leaves.specs.Leaf.{plan_of}

-- the jobs below k are settled, and the starts are a plan that begins so
pub record BeginsSo (Ok : Search → Type 0) (k : ℕ) (base starts : List ℕ) : Type 0 where
  pub prefix : (P : Search) → Ok P → Prefix P k (view base) (plan_of starts)
  pub size : length starts ≡ 24

-- the plan has job k
abbrev pub HasIn : (Search → Type 0) → ℕ → List ℕ → Type 0
HasIn Ok k starts = (P : Search) → Ok P → HasJob P (plan_of starts) k

-- a plan within the base of which X is so; or there is none, and the starts are as they were
pub record Tells (Ok : Search → Type 0) (base : List ℕ) (X : Search → Plan → Type 0) (old new : List ℕ) (found : Bool) : Type 0 where
  pub plan : found ≡ true → (P : Search) → Ok P → PlanIn P (view base) (plan_of new)
  pub fine : found ≡ true → (P : Search) → Ok P → X P (plan_of new)
  pub size : found ≡ true → length new ≡ 24
  pub none : found ≡ false → (P : Search) → Ok P → (Q : Plan) → Left P (view base) Q → X P Q → ⊥
  pub same : found ≡ false → new ≡ old

-- without job k
abbrev pub Without : ℕ → Search → Plan → Type 0
Without k P Q = HasJob P Q k → ⊥

-- with job k before t
abbrev pub Earlier : (k t : ℕ) → Search → Plan → Type 0
Earlier k t P Q = HasJob P Q k × (Q k < t)

-- job k starts as early as it can
pub record Lowered (Ok : Search → Type 0) (base : List ℕ) (k : ℕ) (starts : List ℕ) : Type 0 where
  pub begins : BeginsSo Ok k base starts
  pub there : HasIn Ok k starts
  pub least : (P : Search) → Ok P → (Q : Plan) → Left P (view base) Q → Earlier k (plan_of starts k) P Q → ⊥

-- the starts begin as the first plan does, and have job k
pub record LowerOk (Ok : Search → Type 0) (base : List ℕ) (k : ℕ) (starts : List ℕ) : Type 0 where
  pub begins : BeginsSo Ok k base starts
  pub there : HasIn Ok k starts

-- job k is inside and starts at x
pub record Fixed (s : List ℕ) (k x : ℕ) (r : List ℕ) : Type 0 where
  pub more : More (view s) (view r)
  pub inside : T ((view r).inside k)
  pub lo : (view r).lo k ≡ x
  pub hi : (view r).hi k ≡ x
  pub keep : (P : Search) (Q : Plan) → Fits P Q (view s) → HasJob P Q k → Q k ≡ x → Fits P Q (view r)

-- the starts are the first plan
pub record FirstPlanIs (Ok : Search → Type 0) (starts : List ℕ) : Type 0 where
  pub plan : (P : Search) → Ok P → First P.problem P.bound (plan_of starts)
  pub size : length starts ≡ 24
