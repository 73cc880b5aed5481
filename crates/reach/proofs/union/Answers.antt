use Rattle.facts.proofs.Sets.{has_or}
use Rattle.reach.proofs.union.Goals as goal

pub returns : goal.returns
returns c = λ p. has_or c.args.a c.args.b p
