use Rattle.settle.proofs.Faults.{call_refused, lent, pairs_judged}
use Rattle.settle.proofs.settle_fault.Goals as goal

pub returns-then-fault-ne0 : goal.returns-then-fault-ne0
returns-then-fault-ne0 c = let a = c.args in call_refused a.l a.q a.pairs.now a.out c.too_few-short.ensures c.call_fault-fault.ensures c.if-fault-ne0.true

pub pairs_fault-requires : goal.pairs_fault-requires
pairs_fault-requires c = let a = c.args in lent a.l a.q a.pairs.now a.out c.too_few-short.ensures c.call_fault-fault.ensures c.if-fault-ne0.false

pub returns : goal.returns
returns c = let a = c.args in pairs_judged a.l a.q a.pairs.now a.out c.too_few-short.ensures c.call_fault-fault.ensures c.if-fault-ne0.false (c.pairs_fault.ensures a.l)
