-- ---- the call, from each place behind a check
use mathlib.Core.Path.{sym, subst}
use native.Mathlib.Omega.{arith}
use borrow.Author.Tests.{not-true, not-false}
use Rattle.facts.proofs.Bools.{test_yes, test_no}
use Rattle.rules.specs.InStep.{InStep}
use Rattle.rules.specs.Plans.{starts}
use Rattle.tables.specs.Tables.{problem}
use Rattle.verdict.specs.Steps.{Given}
use Rattle.following.specs.Screens.{Following}
use Rattle.following.proofs.Laws.{step_of, of_step, come_below, refused_plan, refused_words, refused_event, followed}
use Rattle.following.proofs.follow.Goals as goal

-- ---- the answers

pub returns-then-said-ne0 : goal.returns-then-said-ne0
returns-then-said-ne0 c =
    let a = c.args in
    subst (Following a.l a.w a.starts.now) (sym c.dark.ensures) (refused_plan a.l a.w a.starts.now c.plan_fault-said.ensures c.if-said-ne0.true)

pub all_feeders-feeders-requires : goal.all_feeders-feeders-requires
all_feeders-feeders-requires c = let k = c.plan_fault-said.ensures.order c.if-said-ne0.false in (k.clear.few, k.given)

pub all_binders-before-requires : goal.all_binders-before-requires
all_binders-before-requires c = let k = c.plan_fault-said.ensures.order c.if-said-ne0.false in ((k.clear.few, k.given), c.all_feeders-feeders.ensures)

pub free_jobs-free-requires : goal.free_jobs-free-requires
free_jobs-free-requires c = let k = c.plan_fault-said.ensures.order c.if-said-ne0.false in ((k.clear.few, k.given), c.all_binders-before.ensures)

pub returns-then-not-in_step : goal.returns-then-not-in_step
returns-then-not-in_step c =
    let a = c.args in
    subst (Following a.l a.w a.starts.now) (sym c.dark-then-not-in_step.ensures)
    (refused_words a.l a.w a.starts.now c.plan_fault-said.ensures c.if-said-ne0.false
    (λ i. c.in_step.ensures.nay (not-true _ c.if-not-in_step.true-raw)
    (of_step (problem a.l a.w.ask) (starts a.starts.now) a.w.started a.w.finished _ c.free_jobs-free.ensures i)) c.refuse.ensures)

pub returns-then-not-may_come : goal.returns-then-not-may_come
returns-then-not-may_come c =
    let a = c.args in
    let step : InStep (problem a.l a.w.ask) (starts a.starts.now) a.w.started a.w.finished =
    step_of (problem a.l a.w.ask) (starts a.starts.now) a.w.started a.w.finished c.free_jobs-free.result c.free_jobs-free.ensures
    (c.in_step.ensures.yea (not-false _ c.if-not-in_step.false-raw)) in
    subst (Following a.l a.w a.starts.now) (sym c.dark-then-not-may_come.ensures)
    (refused_event a.l a.w a.starts.now c.plan_fault-said.ensures c.if-said-ne0.false step _ c.free_jobs-free.ensures
    (test_no c.may_come.ensures (not-true _ c.if-not-may_come.true-raw)) (rw c.from.ensures at c.refuse-then-not-may_come.ensures))

pub after_event-requires : goal.after_event-requires
after_event-requires c =
    let a = c.args in
    let step : InStep (problem a.l a.w.ask) (starts a.starts.now) a.w.started a.w.finished =
    step_of (problem a.l a.w.ask) (starts a.starts.now) a.w.started a.w.finished c.free_jobs-free.result c.free_jobs-free.ensures
    (c.in_step.ensures.yea (not-false _ c.if-not-in_step.false-raw)) in
    let given : Given c.args.w.ask c.args.starts.now = let k = c.plan_fault-said.ensures.order c.if-said-ne0.false in (k.clear.few, k.given) in
    let below = come_below (problem a.l a.w.ask) (starts a.starts.now) a.w.started a.w.finished _ a.w.event a.w.job step c.free_jobs-free.ensures (test_yes c.may_come.ensures (not-false _ c.if-not-may_come.false-raw)) in
    (given, omega (arith, below, given.0), c.all_binders-before.ensures)

pub returns : goal.returns
returns c =
    let a = c.args in
    let step : InStep (problem a.l a.w.ask) (starts a.starts.now) a.w.started a.w.finished =
    step_of (problem a.l a.w.ask) (starts a.starts.now) a.w.started a.w.finished c.free_jobs-free.result c.free_jobs-free.ensures
    (c.in_step.ensures.yea (not-false _ c.if-not-in_step.false-raw)) in
    followed a.l a.w a.starts.now c.plan_fault-said.ensures c.if-said-ne0.false step _ c.free_jobs-free.ensures
    (test_yes c.may_come.ensures (not-false _ c.if-not-may_come.false-raw)) c.after_event.ensures
