use borrow.Author.Rules.{rules}
use Rattle.jobfile_read.proofs.ask_in.Goals as goal

pub returns : goal.returns
returns c = record { says = cc (c.number.ensures.says, c.number-2.ensures.says, c.number-3.ensures.says, c.number-4.ensures.says, c.number-5.ensures.says); small = search rules }
