use Rattle.std.proofs.Common.{rules}
use Rattle.rules.specs.Pairs.{binds}
use Rattle.rules.specs.Plans.{starts}
use Rattle.tables.specs.Tables.{problem}
use Rattle.bindings.proofs.binders.Goals as goal

pub returns : goal.returns
returns c =
    let a = c.args in
    λ _. c.those.ensures.word (λ k. binds (problem a.l a.q) (starts a.s.now) k a.b) (λ i l b h. search rules)
