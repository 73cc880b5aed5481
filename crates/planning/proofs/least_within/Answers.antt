use Rattle.planning.proofs.Laws.{least_same}
use Rattle.planning.proofs.least_within.Goals as goal

pub returns-in_default : goal.returns-in_default
returns-in_default c = c.in_default.ensures.1 c.args.top

pub least_of-requires : goal.least_of-requires
least_of-requires c = let d = c.in-Ok.ensures in record { served = d.searched; listed = d.listed; short = c.requires.short }

pub returns : goal.returns
returns c = let d = c.in-Ok.ensures in least_same d _ _ c.least_of.result (c.least_of.ensures d.searched d.listed)
