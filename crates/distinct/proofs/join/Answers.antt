use Rattle.std.proofs.Common.{rules}
use native.Mathlib.Omega.{arith}
use Rattle.distinct.proofs.Laws.{band_join}
use Rattle.distinct.proofs.join.Goals as goal

pub returns : goal.returns
returns c P e k =
    let a = c.args in
    let x = rw c.killers.ensures at c.parted-w.ensures in
    rw c.with.ensures (band_join e a.p c.requires a.b a.j _ (omega arith) (c.fits.ensures (search rules)) x (c.within.ensures.yea (search rules)) k)
