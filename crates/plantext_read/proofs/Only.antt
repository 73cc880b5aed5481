-- Two results that meet the promise are equal.
-- Assumes nothing.
use mathlib.Core.Path.{◌≡◌, sym, ◌∙◌}
use mathlib.Core.List.{List}
use Prim.Native.Nat.{ℕ}
use Rattle.tables.specs.declared.Loaded.{Loaded}
use Rattle.tables.specs.declared.Ask.{Ask}
use Rattle.tables.specs.declared.Answer.{Answer}
use Rattle.plantext.specs.Reading.{ReadsText}

pub read_text_only : (l : Loaded) (q : Ask) (names text old new new' : List ℕ) (r r' : Answer) → ReadsText l q names text old new r → ReadsText l q names text old new' r' → (r ≡ r') × (new ≡ new')
read_text_only l q names text old new new' r r' x y = (x.says ∙ sym y.says, x.leaves ∙ sym y.leaves)
