use Rattle.facts.proofs.Sets.{word_after}
use Rattle.facts.proofs.after.Goals as goal

pub returns : goal.returns
returns c = word_after 64 c.args.state c.args.add c.args.del c.ranges.state.fits c.ranges.del.fits
