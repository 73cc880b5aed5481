use mathlib.Core.Path.{ap, ◌∙◌}
use Prim.Native.Nat.{ℕ, ◌+◌}
use lib.ListN.{get_or}
use native.Mathlib.Nat.{add-zero}
use borrow.Author.Tests.{eq-eqb, ne_eqb}
use Rattle.rules.specs.Supports.{whose_row}
use Rattle.tables.specs.Tables.{job_at}
use Rattle.named.proofs.holder_of.Goals as goal

pub returns-then-b-q : goal.returns-then-b-q
unfolding whose_row
returns-then-b-q c = simp (eq-eqb _ _ c.if-b-q.true) (c.holder_at.ensures ∙ simp (add-zero, c.if-b-q.true))

pub returns : goal.returns
unfolding whose_row
returns c =
    let a = c.args in
    let t = get_or a.s.now a.b 0 in
    simp (ne_eqb _ _ c.if-b-q.false) (c.holder_at-2.ensures ∙ ap (λ (g : ℕ). record { me = a.b; at = t; till = t + (job_at a.l a.b).duration; lag = g }) c.gap.ensures)
