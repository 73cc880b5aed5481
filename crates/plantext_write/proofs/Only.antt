-- Two writings that meet the promise give the same answer and leave the same bytes, refusals included.
-- Assumes nothing.
use mathlib.Core.Path.{◌≡◌, sym, ◌∙◌}
use mathlib.Core.List.{List}
use Prim.Native.Nat.{ℕ}
use Rattle.tables.specs.declared.Loaded.{Loaded}
use Rattle.tables.specs.declared.Ask.{Ask}
use Rattle.tables.specs.declared.Answer.{Answer}
use Rattle.plantext.specs.Writing.{WritesText}

pub write_text_only : (l : Loaded) (q : Ask) (names s old new new' : List ℕ) (r r' : Answer) → WritesText l q names s old new r → WritesText l q names s old new' r' → (r ≡ r') × (new ≡ new')
write_text_only l q names s old new new' r r' x y = (x.says ∙ sym y.says, x.bytes ∙ sym y.bytes)
