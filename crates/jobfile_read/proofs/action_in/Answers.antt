use Rattle.jobfile_read.proofs.action_in.Goals as goal

pub returns : goal.returns
returns c = cc (c.number.ensures.says, c.number-2.ensures.says, c.number-3.ensures.says, c.number-4.ensures.says, c.number-5.ensures.says)
