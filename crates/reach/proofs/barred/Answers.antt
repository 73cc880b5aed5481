use Rattle.reach.proofs.Words.{barred_is}
use Rattle.reach.proofs.barred.Goals as goal

pub returns : goal.returns
returns c = barred_is _ c.requires _ _ _ _ c.beside.ensures c.beside-2.ensures c.less.ensures
