use Rattle.facts.proofs.Walks.{walk}
use Rattle.facts.proofs.rest.Goals as goal

pub returns : goal.returns
returns c = walk 64 c.args.w c.ranges.w.fits c.requires
