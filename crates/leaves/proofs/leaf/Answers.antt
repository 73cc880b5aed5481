use Rattle.leaves.proofs.Laws.{found}
use Rattle.leaves.proofs.leaf.Goals as goal

pub returns : goal.returns
returns c = found c.requires (rw c.insides.ensures at (c.no_stray.ensures.yea c.if-not-no_stray.false)) (c.stand_all.ensures.fine c.if-not-stand_all.false) c.starts.ensures
