-- What the steps of explaining promise.
-- Assumes nothing.
use Rattle.std.specs.Prelude.{List, [], ◌∷◌, ℕ, zero, suc, T, get_or}
use Rattle.facts.specs.Facts.{has}
use Rattle.rules.specs.Premises.{InOrder}
use Rattle.rules.specs.Plans.{Plan}
use Rattle.rules.specs.Settling.{Settled}
use Rattle.tables.specs.declared.Loaded.{Loaded}
use Rattle.tables.specs.declared.Ask.{Ask}
use Rattle.tables.specs.Tables.{problem}
use Rattle.times.specs.Times.{wanted}
use Rattle.times.specs.Steps.{Ready}

-- the starts are settled, and job j is of the set
pub record Explainable (l : Loaded) (q : Ask) (bytes : List ℕ) (z : Plan) (j : ℕ) : Type 0 where
  pub ready : Ready q bytes
  pub order : InOrder (problem l q)
  pub settled : Settled (problem l q) (wanted l q bytes) z
  pub member : T (has q.set j)

-- the first n numbers of the list, the last of them first
unfoldable pub backwards : (xs : List ℕ) → ℕ → List ℕ
backwards xs zero = []
backwards xs (suc n) = get_or xs n 0 ∷ backwards xs n
