use Rattle.cells.proofs.Changes.{under, then}
use Rattle.crowds.proofs.crowded.Goals as goal

pub returns-then-some_full : goal.returns-then-some_full
returns-then-some_full c = under (λ P wf e. record { lent = e; some = c.alone-a.ensures P }) c.some_full.ensures

pub returns : goal.returns
returns c =
    then (under (λ P wf e. record { lent = e; some = c.alone-a.ensures P }) c.some_full.ensures) (under (λ P wf e. record { lent = e; some = c.words_of-g.ensures P e }) c.some_full-2.ensures)
