use Rattle.std.proofs.Common.{rules}
use lib.ListN.{get_or}
use Rattle.keeps.specs.Keeps.{KeepsAway}
use Rattle.facts.proofs.Arrays.{made}
use Rattle.keeps.proofs.lengths.Goals as goal

pub returns : goal.returns
returns c a l =
    let g = c.args in
    made _ _ _ 24 (λ i x. KeepsAway g.s.now g.t.now g.w (get_or g.words i 0) x) (λ i y q m k. (search rules, search rules)) c.from_fn.ensures.items a 0 l
