use Rattle.facts.proofs.Bools.{test_yes}
use Rattle.cells.proofs.Changes.{says}
use Rattle.prune.proofs.Laws.{spare_first, spare_after}
use Rattle.prune.proofs.spare.Goals as goal

pub returns-then-late_for : goal.returns-then-late_for
returns-then-late_for c kills h = says c.put_sure.ensures (λ P wf x. spare_first wf x c.args.d h c.if-d-b.false (test_yes c.late_for.ensures c.if-late_for.true))

pub returns-then-b-lt24 : goal.returns-then-b-lt24
returns-then-b-lt24 c kills h = says c.put_sure-then-b-lt24.ensures (λ P wf x. spare_after wf x c.if-b-lt24.true c.args.d h c.if-d-b.false (test_yes c.never.ensures c.if-not-never.false))
