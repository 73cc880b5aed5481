-- Words of jobs of which one is in.
-- Assumes nothing.
use Rattle.std.specs.Prelude.{◌≢◌, List, ℕ, ◌<◌, T, get_or}
use Rattle.facts.specs.Facts.{has}
use Rattle.rules.specs.Plans.{Plan}
use Rattle.states.specs.State.{Search, HasJob, St, Left}
use Rattle.cells.specs.View.{view}
use Rattle.lent.specs.Lent.{Lent}
use Rattle.groups.specs.declared.Groups.{Groups}

-- every plan left has some job of the word
abbrev pub SomeOf : Search → St → (word : ℕ) → Type 0
SomeOf P s w = (Q : Plan) → Left P s Q → (a : ℕ) × T (has w a) × HasJob P Q a

-- the word is empty, or every plan left has a job of it
abbrev pub OneIn : Search → List ℕ → (word : ℕ) → Type 0
OneIn P s w = w ≢ 0 → SomeOf P (view s) w

-- so are the first n words
abbrev pub AllOneIn : Search → List ℕ → (words : List ℕ) (n : ℕ) → Type 0
AllOneIn P s words n = (j : ℕ) → j < n → OneIn P s (get_or words j 0)

-- and those of r, if those of g are
abbrev pub Grows : (s L : List ℕ) (g r : Groups) → Type 0
Grows s L g r = (P : Search) → Lent L P → AllOneIn P s g.words 24 → AllOneIn P s r.words 24
