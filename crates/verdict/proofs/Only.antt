-- The promises leave one answer: two answers to one call are equal.
-- Assumes nothing.
use mathlib.Core.Path.{◌≡◌, sym, ◌∙◌}
use mathlib.Core.List.{List}
use Prim.Native.Nat.{ℕ}
use Rattle.tables.specs.declared.Loaded.{Loaded}
use Rattle.tables.specs.declared.Ask.{Ask}
use Rattle.tables.specs.declared.Answer.{Answer}
use Rattle.verdict.specs.Offered.{ChecksPlan}

-- check_plan
pub check_plan_only : (l : Loaded) (q : Ask) (s : List ℕ) (r r' : Answer) → ChecksPlan l q s r → ChecksPlan l q s r' → r ≡ r'
check_plan_only l q s r r' x y = x ∙ sym y
