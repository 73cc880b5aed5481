use native.Mathlib.Omega.{arith}
use Rattle.lateness.proofs.Calls.{refused_plan, refused_overrun, runnable, finish_given}
use Rattle.lateness.proofs.how_late.Goals as goal

pub returns-then-said-ne0 : goal.returns-then-said-ne0
returns-then-said-ne0 c = let a = c.args in refused_plan a.l a.o a.starts.now c.plan_fault-said.ensures c.if-said-ne0.true

pub returns-then-o-gt96 : goal.returns-then-o-gt96
returns-then-o-gt96 c =
    let a = c.args in
    refused_overrun a.l a.o a.starts.now c.plan_fault-said.ensures c.if-said-ne0.false c.if-o-gt96.true c.refuse.ensures

pub latest_finish-requires : goal.latest_finish-requires
latest_finish-requires c =
    let a = c.args in
    (runnable a.l a.o a.starts.now c.plan_fault-said.ensures c.if-said-ne0.false, omega (arith, c.if-o-gt96.false))

pub returns : goal.returns
returns c =
    let a = c.args in
    finish_given a.l a.o a.starts.now c.plan_fault-said.ensures c.if-said-ne0.false (omega (arith, c.if-o-gt96.false)) c.latest_finish.ensures c.done.ensures
