-- What the contracts of the rules for leading jobs cite.
-- Assumes nothing.
use Rattle.std.specs.Prelude.{ℕ}
use Rattle.states.specs.State.{Search, Leads}

-- m leads n in the first plan
abbrev pub Led : (m n : ℕ) → Search → Type 0
Led m n P = Leads P m n
