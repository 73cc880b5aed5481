use Rattle.cells.proofs.Changes.{under}
use Rattle.facts.proofs.Bools.{test_yes}
use Rattle.prune.proofs.Laws.{only_begun}
use Rattle.prune.proofs.with_start.Goals as goal

pub returns-then-there_for : goal.returns-then-there_for
returns-then-there_for c = under (λ P wf x. only_begun wf x c.if-w-eq0.true (test_yes c.there_for.ensures c.if-there_for.true)) c.follow_all.ensures
