use Rattle.facts.proofs.Walks.{walk}
use Rattle.jobs.proofs.rest.Goals as goal

pub returns : goal.returns
returns c = walk 32 c.args.w c.ranges.w.fits c.requires
