use Rattle.cells.proofs.Changes.{under, follows}
use Rattle.crowds.proofs.Laws.{trusted_more}
use Rattle.crowds.proofs.overfull.Goals as goal

pub returns-then-full_at : goal.returns-then-full_at
returns-then-full_at c =
    under (λ P wf x. record { lent = x.lent; fair = record { hold = c.lengths-long.ensures; some = x.some } }) (follows c.loop-i.invariant trusted_more c.full_at.ensures)

pub loop-i-preserved : goal.loop-i-preserved
loop-i-preserved c = follows c.loop-i.invariant trusted_more c.full_at.ensures

pub returns : goal.returns
returns c = under (λ P wf x. record { lent = x.lent; fair = record { hold = c.lengths-long.ensures; some = x.some } }) c.loop-i.invariant
