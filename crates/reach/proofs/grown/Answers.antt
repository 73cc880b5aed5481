use Rattle.std.proofs.Common.{rules, get_or}
use Rattle.facts.specs.Words.{Word}
use Rattle.reach.specs.Rows.{grown_row}
use Rattle.facts.proofs.Arrays.{made}
use Rattle.reach.proofs.Laws.{grown_all}
use Rattle.reach.proofs.grown.Goals as goal

pub returns : goal.returns
returns c =
    let a = c.args in
    grown_all _ _ _ _ (search rules) (search rules) (λ p. made _ _ _ 64 (λ p y. Word (grown_row (get_or a.s.rows p 0) a.a a.w p) y) (λ i y q l k. (λ p. search rules, search rules)) c.from_fn.ensures.items p 0)
