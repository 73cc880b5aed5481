use Rattle.std.proofs.Common.{rules}
use Rattle.cells.proofs.Changes.{under, follows}
use Rattle.crowds.proofs.Laws.{stands_more}
use Rattle.crowds.proofs.beside.Goals as goal

pub returns : goal.returns
returns c =
    under (λ P wf x. record { heaped = x; among = search rules; rivals = rw c.hits.ensures at (c.within.ensures.yea (search rules)) })
    (follows (follows c.last.ensures stands_more c.first.ensures) stands_more c.after.ensures)
