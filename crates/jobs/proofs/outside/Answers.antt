use Rattle.facts.proofs.Sets.{has_less}
use Rattle.jobs.proofs.outside.Goals as goal

pub returns : goal.returns
returns c b = has_less 32 _ _ b c.ranges.w.fits c.ranges.v.fits
