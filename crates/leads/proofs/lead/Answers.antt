use Rattle.cells.proofs.Changes.{says, say, then}
use Rattle.states.proofs.Leads.{lead_high, lead_never}
use native.Mathlib.Omega.{arith}
use Rattle.leads.proofs.lead.Goals as goal

pub returns : goal.returns
returns c =
    then c.joins.ensures (then c.leaves.ensures
    (then (say c.till.ensures.says (λ P wf e Q l k. omega (arith, lead_high _ e Q l k, c.hi.ensures)))
    (says c.put_never.ensures (λ P wf e. lead_never _ e wf))))
