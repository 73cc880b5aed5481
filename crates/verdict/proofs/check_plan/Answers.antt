use Rattle.verdict.proofs.check_plan.Goals as goal

pub returns : goal.returns
returns c = c.plan_fault.ensures.says
