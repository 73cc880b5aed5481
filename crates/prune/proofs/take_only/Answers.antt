use Rattle.cells.proofs.Changes.{says, follows}
use Rattle.prune.proofs.Laws.{spared_more, spare_in}
use Rattle.prune.proofs.take_only.Goals as goal

pub returns : goal.returns
returns c = follows (says c.put_inside.ensures (λ P wf x. spare_in wf x)) spared_more (follows (c.serve.ensures _) spared_more c.spare_all.ensures)
