use Rattle.cells.proofs.Changes.{killed}
use Rattle.cells.proofs.kill.Goals as goal

pub returns : goal.returns
returns c = killed c.put_inside.ensures c.put_barred.ensures
