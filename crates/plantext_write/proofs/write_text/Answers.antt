use native.Mathlib.Omega.{arith}
use Rattle.plantext_write.proofs.Laws.{writes_no, enough, writes_misnamed, writes_all}
use Rattle.plantext_write.proofs.write_text.Goals as goal

pub returns-then-said-ne0 : goal.returns-then-said-ne0
returns-then-said-ne0 c = let a = c.args in writes_no a.l a.q a.names.now a.starts.now a.out.now c.too_short-short.ensures c.plan_fault-said.ensures c.if-said-ne0.true

pub names_fault-fault-requires : goal.names_fault-fault-requires
names_fault-fault-requires c = (c.plan_fault-said.ensures.order c.if-said-ne0.false).clear.few

pub returns-then-fault-ne0 : goal.returns-then-fault-ne0
returns-then-fault-ne0 c = let a = c.args in writes_misnamed a.l a.q a.names.now a.starts.now a.out.now c.too_short-short.ensures c.plan_fault-said.ensures c.if-said-ne0.false c.names_fault-fault.ensures c.if-fault-ne0.true

pub put_steps-requires : goal.put_steps-requires
put_steps-requires c = let a = c.args in let k = enough a.l a.q a.names.now a.starts.now a.out.now c.too_short-short.ensures c.plan_fault-said.ensures c.if-said-ne0.false in (k.0, k.1)

pub overflow_cast-put_steps : goal.overflow_cast-put_steps
overflow_cast-put_steps c = let a = c.args in let k = enough a.l a.q a.names.now a.starts.now a.out.now c.too_short-short.ensures c.plan_fault-said.ensures c.if-said-ne0.false in record { fits = omega (arith, c.put_steps.ensures.next, k.2) }

pub returns : goal.returns
returns c = let a = c.args in writes_all a.l a.q a.names.now a.starts.now a.out.now c.too_short-short.ensures c.plan_fault-said.ensures c.if-said-ne0.false c.names_fault-fault.ensures c.if-fault-ne0.false c.put_steps.ensures c.done.ensures
