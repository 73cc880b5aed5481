use Rattle.verdict.proofs.Accepted.{refuses_table, bounds, judges_plan}
use Rattle.verdict.proofs.plan_fault.Goals as goal

pub returns-then-fault-ne0 : goal.returns-then-fault-ne0
returns-then-fault-ne0 c = refuses_table _ _ _ _ c.too_short-few.ensures c.call_fault-fault.ensures c.if-fault-ne0.true

pub steps_fault-requires : goal.steps_fault-requires
steps_fault-requires c = bounds c.args.short c.args.l c.args.q c.args.starts.now c.too_short-few.ensures c.call_fault-fault.ensures c.if-fault-ne0.false

pub returns : goal.returns
returns c = judges_plan _ _ _ _ c.too_short-few.ensures c.call_fault-fault.ensures c.if-fault-ne0.false c.steps_fault.ensures
