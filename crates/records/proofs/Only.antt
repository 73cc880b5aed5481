-- Two results that meet a promise are equal: the table, and all lent records.
-- Assumes nothing.
use mathlib.Core.Path.{◌≡◌, sym, ◌∙◌}
use mathlib.Core.List.{List}
use Prim.Native.Nat.{ℕ}
use Rattle.tables.specs.declared.Action.{Action}
use Rattle.tables.specs.declared.Loaded.{Loaded}
use Rattle.tables.specs.Tables.{job_at, filled}
use Rattle.records.specs.Records.{loaded}

-- load
pub load_only : (ts : List Action) (r s : Loaded) → r ≡ loaded ts → s ≡ loaded ts → r ≡ s
load_only ts r s x y = x ∙ sym y

-- scatter
pub scatter_only : (l : Loaded) (n : ℕ) (old new new' : List Action) → new ≡ filled (job_at l) n old → new' ≡ filled (job_at l) n old → new ≡ new'
scatter_only l n old new new' x y = x ∙ sym y
