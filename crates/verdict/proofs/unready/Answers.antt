use mathlib.Core.Path.{ap, ◌∙◌}
use Prim.Native.Nat.{ℕ, ◌-◌}
use lib.ListN.{get_or}
use borrow.Author.Tests.{eq-eqb}
use Rattle.rules.specs.Plans.{in_plan}
use Rattle.rules.specs.Verdicts.{unready}
use Rattle.verdict.proofs.Steps.{unready_of}
use Rattle.verdict.proofs.unready.Goals as goal

pub returns-then-s-i : goal.returns-then-s-i
unfolding unready in_plan
returns-then-s-i c = simp (eq-eqb _ _ c.if-s-i.true)

pub returns : goal.returns
returns c =
    let a = c.args in
    c.is_some.ensures ∙ unready_of a.l a.q a.s.now a.i _ _ c.if-s-i.false (c.earlier.ensures ∙ ap (λ (g : ℕ). get_or a.s.now a.i 0 - g) c.gap.ensures) c.facts_at-state.ensures c.first_lacking.ensures
