use Rattle.facts.proofs.Bools.{decides_eqb}
use Rattle.facts.proofs.Sets.{covers_and}
use Rattle.facts.proofs.covers.Goals as goal

pub returns : goal.returns
returns c = decides_eqb _ _ (covers_and 64 c.args.have c.args.want c.ranges.want.fits)
