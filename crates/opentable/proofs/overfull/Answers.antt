use mathlib.Core.Path.{ap, subst}
use Prim.Native.Nat.{ℕ}
use native.Mathlib.Omega.{arith}
use Rattle.opentable.specs.declared.OpenTable.{OpenTable}
use Rattle.opentable.specs.Steps.{Overfull}
use Rattle.opentable.proofs.Edits.{with_count, full_judged}
use Rattle.opentable.proofs.overfull.Goals as goal

pub returns : goal.returns
returns c = let u = c.empty_of.result in
    subst (λ (n : ℕ). Overfull n c.table_fault.result) (ap (λ (x : OpenTable). x.atoms) c.empty_of.ensures) (full_judged (with_count u 25) c.table_fault.result (omega arith) c.table_fault.ensures)
