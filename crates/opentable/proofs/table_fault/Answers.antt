use Rattle.opentable.proofs.Edits.{open_judged}
use Rattle.opentable.proofs.table_fault.Goals as goal

pub returns : goal.returns
returns c = open_judged c.args.t c.jobs_of.result c.ask_of.result c.call_fault.result c.jobs_of.ensures c.ask_of.ensures c.call_fault.ensures
