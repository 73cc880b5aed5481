-- Two writings that meet the promise give the same answer and leave the same bytes, refusals included.
-- Assumes nothing.
use mathlib.Core.Path.{◌≡◌, sym, ◌∙◌}
use mathlib.Core.List.{List}
use Prim.Native.Nat.{ℕ}
use Rattle.tables.specs.declared.Loaded.{Loaded}
use Rattle.tables.specs.declared.Ask.{Ask}
use Rattle.tables.specs.declared.Answer.{Answer}
use Rattle.jobfile.specs.Calls.{Writes}

pub write_file_only : (l : Loaded) (q : Ask) (used : ℕ) (old new new' : List ℕ) (r s : Answer) → Writes l q used old new r → Writes l q used old new' s → (r ≡ s) × (new ≡ new')
write_file_only l q used old new new' r s x y = (x.says ∙ sym y.says, x.bytes ∙ sym y.bytes)
