use Rattle.std.proofs.Common.{rules}
use Prim.Native.Nat.{ℕ}
use Rattle.leaves.specs.Leaf.{Violated}
use Rattle.facts.proofs.Searches.{found_of}
use Rattle.leaves.proofs.Laws.{row_found}
use Rattle.leaves.proofs.violated_row.Goals as goal

pub returns : goal.returns
returns c =
    let a = c.args in
    row_found a.s.now a.t.now a.b _ _ (search rules) (found_of _ _ (λ (k : ℕ). Violated a.s.now a.t.now k a.b) (λ (k : ℕ). Violated a.s.now a.t.now k a.b → ⊥) (λ x q k. search rules) (λ x q k. (search rules, search rules)) _ _ _ c.find.ensures.ran)
