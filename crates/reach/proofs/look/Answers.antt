use Rattle.std.proofs.Common.{rules}
use Rattle.reach.proofs.Laws.{looked_fit}
use Rattle.reach.proofs.look.Goals as goal

pub returns : goal.returns
returns c = looked_fit _ _ _ _ (search rules) _ _ (search rules) c.beside.ensures c.grown.ensures
