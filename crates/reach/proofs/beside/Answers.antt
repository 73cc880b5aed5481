use Rattle.std.proofs.Common.{rules}
use Rattle.reach.proofs.Laws.{seen_is, beside_all}
use Rattle.reach.proofs.beside.Goals as goal

pub returns : goal.returns
returns c =
    let a = c.args in
    beside_all a.s.rows a.c a.d c.ranges.c.fits _ (c.those.ensures.word _ (λ q l b k. seen_is a.s.rows a.c a.d c.ranges.c.fits q b (search rules)))
