use Rattle.cells.proofs.Changes.{then, under}
use Rattle.prune.proofs.round.Goals as goal

pub returns-then-broken-2 : goal.returns-then-broken-2
returns-then-broken-2 c =
    then c.pairs.ensures (then c.all_led.ensures (under (λ P wf e. tt) c.chains.ensures))

pub returns : goal.returns
returns c =
    then c.pairs.ensures (then c.all_led.ensures (then (under (λ P wf e. tt) c.chains.ensures) c.consumers.ensures))
