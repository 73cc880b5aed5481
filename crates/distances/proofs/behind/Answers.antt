use Rattle.std.proofs.Common.{rules}
use Rattle.facts.proofs.Arrays.{made}
use Rattle.distances.proofs.Rows.{Behind, behind_all}
use Rattle.distances.proofs.behind.Goals as goal

pub returns : goal.returns
returns c =
    let a = c.args in
    behind_all a.est _ (λ b. made _ _ _ 25 (Behind a.dur a.gap a.est a.end) (λ i y q l k. (search rules, search rules)) c.from_fn.ensures.items b 0)
