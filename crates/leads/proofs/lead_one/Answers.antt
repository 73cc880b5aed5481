use Rattle.cells.proofs.Changes.{under}
use Rattle.leads.specs.Led.{Led}
use mathlib.Core.Path.{sym, subst}
use Prim.Native.Nat.{ℕ}
use native.Mathlib.Omega.{arith}
use Rattle.leads.proofs.lead_one.Goals as goal

pub returns-then-n-lt24 : goal.returns-then-n-lt24
returns-then-n-lt24 c =
    let m = c.args.m in
    under (λ P wf e. subst (λ (n : ℕ). Led m n P) (sym c.led-n.ensures) (e.listed.leads m c.requires (omega arith) P.bound)) c.lead.ensures
