-- Two tidyings that meet the promise give the same answer and leave the same bytes, refusals included.
-- Assumes nothing.
use mathlib.Core.Path.{◌≡◌, sym, ◌∙◌}
use mathlib.Core.List.{List}
use Prim.Native.Nat.{ℕ}
use Rattle.tables.specs.declared.Answer.{Answer}
use Rattle.jobfile.specs.Tidy.{Tidies}

pub tidy_only : (used : ℕ) (old new new' : List ℕ) (r s : Answer) → Tidies used old new r → Tidies used old new' s → (r ≡ s) × (new ≡ new')
tidy_only used old new new' r s x y = (x.says ∙ sym y.says, x.bytes ∙ sym y.bytes)
