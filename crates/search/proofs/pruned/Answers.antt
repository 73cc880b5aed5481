use Rattle.search.proofs.Laws.{settled_on}
use Rattle.search.proofs.pruned.Goals as goal

pub returns-then-not-broken : goal.returns-then-not-broken
returns-then-not-broken c = settled_on c.tighten.ensures c.settle.ensures
