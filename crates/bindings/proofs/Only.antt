-- The promises leave one answer and one content of the lent bytes: two results of one call are equal.
-- Assumes nothing.
use mathlib.Core.Path.{◌≡◌, sym, ap₂, ◌∙◌}
use mathlib.Core.List.{List}
use Prim.Native.Nat.{ℕ}
use Rattle.tables.specs.declared.Loaded.{Loaded}
use Rattle.tables.specs.declared.Ask.{Ask}
use Rattle.tables.specs.declared.Answer.{Answer}
use Rattle.bindings.specs.Bindings.{Supports, Pairs}

-- supports
pub supports_only : (l : Loaded) (q : Ask) (s old new new' : List ℕ) (r r' : Answer) → Supports l q s old new r → Supports l q s old new' r'
    → ◌≡◌ {A = Answer × List ℕ} (r, new) (r', new')
supports_only l q s old new new' r r' x y = ap₂ (λ (a : Answer) (m : List ℕ). (a, m)) (x.says ∙ sym y.says) (x.table ∙ sym y.table)

-- binding_pairs
pub binding_pairs_only : (l : Loaded) (q : Ask) (s old new new' : List ℕ) (r r' : Answer) → Pairs l q s old new r → Pairs l q s old new' r'
    → ◌≡◌ {A = Answer × List ℕ} (r, new) (r', new')
binding_pairs_only l q s old new new' r r' x y = ap₂ (λ (a : Answer) (m : List ℕ). (a, m)) (x.says ∙ sym y.says) (x.list ∙ sym y.list)
