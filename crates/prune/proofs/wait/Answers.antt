use Rattle.cells.proofs.Changes.{say}
use Rattle.prune.proofs.Laws.{awaits_low}
use Rattle.prune.proofs.wait.Goals as goal

pub returns-then-b-lt24 : goal.returns-then-b-lt24
returns-then-b-lt24 c = say c.from.ensures (λ P wf x. awaits_low wf x c.if-b-lt24.true c.least_of-x.ensures)
