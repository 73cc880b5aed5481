use borrow.Author.Tests.{not-true, not-false}
use Rattle.facts.proofs.Bools.{at_most}
use Rattle.planning.proofs.Answers.{in_reach, plans_refused, plans_none, plans_found}
use Rattle.planning.proofs.plan_within.Goals as goal

pub returns-then-fault-ne0 : goal.returns-then-fault-ne0
returns-then-fault-ne0 c = let a = c.args in plans_refused a.l a.q a.out.now c.call_fault-fault.ensures c.if-fault-ne0.true

pub enough-top-requires : goal.enough-top-requires
enough-top-requires c = (c.call_fault-fault.ensures.order c.if-fault-ne0.false).few

pub first_within-requires : goal.first_within-requires
first_within-requires c = let a = c.args in in_reach a.l a.q a.out.now c.call_fault-fault.ensures c.if-fault-ne0.false _ c.enough-top.ensures

pub returns-then-not-first_within : goal.returns-then-not-first_within
returns-then-not-first_within c = let a = c.args in plans_none a.l a.q a.out.now c.call_fault-fault.ensures c.if-fault-ne0.false _ c.enough-top.ensures c.refuse.ensures (c.first_within.ensures.none (not-true _ c.if-not-first_within.true-raw))

pub fill-requires : goal.fill-requires
fill-requires c = ((c.call_fault-fault.ensures.order c.if-fault-ne0.false).few, at_most _ _ (c.call_fault-fault.ensures.order c.if-fault-ne0.false).room)

pub returns : goal.returns
returns c = let a = c.args in plans_found a.l a.q a.out.now c.call_fault-fault.ensures c.if-fault-ne0.false _ c.enough-top.ensures c.done.ensures c.fill.ensures c.first_within.ensures (not-false _ c.if-not-first_within.false-raw)
