use Rattle.cells.proofs.Changes.{says, under}
use Rattle.prune.proofs.Laws.{lost_end, lost_job}
use native.Mathlib.Omega.{arith}
use Rattle.prune.proofs.none_left.Goals as goal

pub returns-then-b-eq24 : goal.returns-then-b-eq24
returns-then-b-eq24 c = under (λ P wf x. lost_end wf x c.if-b-eq24.true) c.kill.ensures

pub returns : goal.returns
returns c = says c.put_barred.ensures (λ P wf x. lost_job wf x (omega arith))
