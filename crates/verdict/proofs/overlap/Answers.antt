use mathlib.Core.Path.{sym, ◌∙◌}
use Rattle.facts.proofs.Bools.{and_first, and_next}
use Rattle.verdict.proofs.Steps.{overlap_of}
use Rattle.verdict.proofs.overlap.Goals as goal

pub returns-then-together : goal.returns-then-together
returns-then-together c =
    let a = c.args in
    and_next c.together.ensures c.if-together.true (c.interferes.ensures a.q) ∙ overlap_of a.l a.q a.s.now a.i a.j c.gap.ensures

pub returns : goal.returns
returns c =
    let a = c.args in
    sym c.if-together.false ∙ and_first _ c.together.ensures c.if-together.false ∙ overlap_of a.l a.q a.s.now a.i a.j c.gap.ensures
