use Rattle.cells.proofs.Changes.{under}
use Rattle.facts.proofs.Bools.{test_yes}
use Rattle.prune.proofs.Laws.{only_spared}
use Rattle.prune.proofs.only_one.Goals as goal

pub returns-then-there_for : goal.returns-then-there_for
returns-then-there_for c = under (λ P wf x. only_spared wf x c.in-Some.ensures (test_yes c.there_for.ensures c.if-there_for.true)) c.take_only.ensures
