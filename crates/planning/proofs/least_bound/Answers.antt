use Prim.Native.Nat.{ℕ}
use mathlib.Core.Path.{◌≡◌, ap, ◌∙◌}
use native.Mathlib.Omega.{arith}
use Rattle.facts.proofs.Bools.{at_most}
use Rattle.refusals.specs.Refusals.{accepted}
use Rattle.tables.specs.Tables.{answer_of}
use Rattle.planning.proofs.Answers.{in_reach, bounds_refused, bounds_none, bounds_found}
use Rattle.planning.proofs.least_bound.Goals as goal

pub returns-then-fault-ne0 : goal.returns-then-fault-ne0
returns-then-fault-ne0 c = let a = c.args in bounds_refused a.l a.q a.out.now c.call_fault-fault.ensures c.if-fault-ne0.true c.refuse_for.ensures

pub enough-top-requires : goal.enough-top-requires
enough-top-requires c = (c.call_fault-fault.ensures.order c.if-fault-ne0.false).few

pub least_within-requires : goal.least_within-requires
least_within-requires c = let a = c.args in in_reach a.l a.q a.out.now c.call_fault-fault.ensures c.if-fault-ne0.false _ c.enough-top.ensures

pub returns-in-None : goal.returns-in-None
returns-in-None c = let a = c.args in bounds_none a.l a.q a.out.now c.call_fault-fault.ensures c.if-fault-ne0.false _ c.enough-top.ensures c.refuse.ensures c.in-None.ensures

pub fill-requires : goal.fill-requires
fill-requires c = ((c.call_fault-fault.ensures.order c.if-fault-ne0.false).few, at_most _ _ (c.call_fault-fault.ensures.order c.if-fault-ne0.false).room)

pub returns-in-Some : goal.returns-in-Some
returns-in-Some c =
    let a = c.args in
    let z : c.from.result ≡ c.in-Some.bound = omega (arith, c.from.ensures) in
    bounds_found a.l a.q a.out.now c.call_fault-fault.ensures c.if-fault-ne0.false _ c.enough-top.ensures (c.done.ensures ∙ ap (λ (v : ℕ). answer_of accepted v 0) z) c.fill.ensures c.in-Some.ensures
