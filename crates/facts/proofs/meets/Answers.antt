use Rattle.facts.proofs.Sets.{meets_any}
use Rattle.facts.proofs.meets.Goals as goal

pub returns : goal.returns
returns c = meets_any 64 c.args.a c.args.b c.ranges.b.fits
