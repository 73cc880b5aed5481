use Rattle.cells.proofs.Changes.{then}
use Rattle.prune.proofs.rare.Goals as goal

pub returns : goal.returns
returns c = then c.crowded.ensures c.distinct.ensures
