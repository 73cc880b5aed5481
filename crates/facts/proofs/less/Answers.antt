use Rattle.facts.proofs.Sets.{has_less}
use Rattle.facts.proofs.less.Goals as goal

pub returns : goal.returns
returns c = λ p. has_less 64 c.args.a c.args.b p c.ranges.a.fits c.ranges.b.fits
