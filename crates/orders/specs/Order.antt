-- What the contracts of the rules along windows and orders of pairs cite.
-- Assumes nothing.
use Rattle.std.specs.Prelude.{Bool, List, ℕ, ◌≤◌, T}
use Rattle.rules.specs.Clashes.{interfere}
use Rattle.states.specs.State.{Search}
use Rattle.cells.specs.View.{view, Says, Till}

-- the flag says that a and b interfere
abbrev pub HitFlag : ℕ → ℕ → Bool → Search → Type 0
HitFlag a b hit P = T hit → T (interfere P.problem a b)

-- job j starts by x
pub record Tills (s : List ℕ) (j x : ℕ) (r : List ℕ) : Type 0 where
  pub says : Says (Till j x) s r
  pub within : (view r).hi j ≤ x
