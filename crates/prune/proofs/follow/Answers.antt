use Rattle.cells.proofs.Changes.{says}
use Rattle.prune.proofs.Laws.{begun_before}
use native.Mathlib.Omega.{arith}
use Rattle.prune.proofs.follow.Goals as goal

pub returns : goal.returns
returns c kills h = says c.put_sure.ensures (λ P wf x. begun_before wf x c.args.d h (omega arith) c.if-d-b.false)
