use Rattle.settle.proofs.Starts.{checks_refuse, behind_checks}
use Rattle.settle.proofs.settled.Goals as goal

pub returns-then-answer-ne0 : goal.returns-then-answer-ne0
returns-then-answer-ne0 c = let a = c.args in checks_refuse a.l a.q a.pairs.now a.room c.settle_fault-answer.ensures.says c.if-answer-ne0.true

pub least_starts-requires : goal.least_starts-requires
least_starts-requires c = (c.settle_fault-answer.ensures.order c.if-answer-ne0.false).ready

pub returns : goal.returns
returns c =
    let a = c.args in
    rw c.ok_or.ensures.value (behind_checks a.l a.q a.pairs.now a.room c.settle_fault-answer.ensures.says c.if-answer-ne0.false c.refuse.ensures c.least_starts.result c.least_starts.ensures)
