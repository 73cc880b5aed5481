use Rattle.cells.proofs.Changes.{then}
use Rattle.leads.proofs.all_led.Goals as goal

pub loop-m-preserved : goal.loop-m-preserved
loop-m-preserved c = then c.loop-m.invariant c.lead_one.ensures
