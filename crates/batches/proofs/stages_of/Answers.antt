use Rattle.batches.specs.Groups.{house_groups}
use Rattle.batches.proofs.Laws.{pointed}
use Rattle.batches.proofs.stages_of.Goals as goal

-- the table is the house groups, group by group
pub returns : goal.returns
unfolding house_groups
returns c = pointed _ _ _ _ _ _ _ _ _ _ _ _ _ c.args.group
