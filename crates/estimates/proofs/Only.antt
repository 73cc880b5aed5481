-- The promise of `earliest` leaves one result: the answer and all lent memory.
-- Assumes nothing.
use mathlib.Core.Path.{◌≡◌, sym, ◌∙◌}
use mathlib.Core.List.{List}
use Prim.Native.Nat.{ℕ}
use lib.Dec.{ltb}
use lib.ListN.{length}
use Rattle.rules.proofs.Early.{estimates_only}
use Rattle.tables.specs.declared.Loaded.{Loaded}
use Rattle.tables.specs.declared.Ask.{Ask}
use Rattle.tables.specs.declared.Answer.{Answer}
use Rattle.tables.specs.Tables.{problem}
use Rattle.tables.proofs.Calls.{call_checks_lem, cleared}
use Rattle.tables.proofs.Fills.{fills_only}
use Rattle.estimates.specs.Earliest.{Earliest}

pub earliest_only : (l : Loaded) (q : Ask) (old new new' : List ℕ) (r r' : Answer) → Earliest l q old new r → Earliest l q old new' r' → (r ≡ r') × (new ≡ new')
earliest_only l q old new new' r r' x y =
    fills_only (call_checks_lem (ltb (length old) q.jobs) 0 l q) _ 0 q.jobs old
    (λ k v w b c s t x y. (x.0 ∙ sym y.0, x.1 ∙ sym y.1, λ _. estimates_only (problem l q) (cleared (ltb (length old) q.jobs) 0 l q k).order s t x.2 y.2)) r r' new new' x y
