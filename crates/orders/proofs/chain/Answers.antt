use Rattle.cells.proofs.Changes.{then}
use Rattle.orders.proofs.chain.Goals as goal

pub returns : goal.returns
returns c = then c.through_all.ensures c.shut.ensures
