use Rattle.facts.proofs.Sets.{lowest_fact}
use Rattle.facts.proofs.lowest.Goals as goal

pub returns : goal.returns
returns c = lowest_fact 64 c.args.w
