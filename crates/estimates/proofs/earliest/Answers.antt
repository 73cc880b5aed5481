use mathlib.Core.Path.{refl}
use lib.Dec.{ltb}
use lib.ListN.{length}
use Rattle.facts.proofs.Bools.{at_most}
use Rattle.refusals.specs.Refusals.{accepted}
use Rattle.tables.proofs.Calls.{call_checks_lem}
use Rattle.tables.proofs.Fills.{fills_fault, fills_behind}
use Rattle.entries.specs.Entries.{entry}
use Rattle.estimates.proofs.earliest.Goals as goal

pub returns-then-fault-ne0 : goal.returns-then-fault-ne0
returns-then-fault-ne0 c = fills_fault (call_checks_lem (ltb (length c.args.out.now) c.args.q.jobs) 0 c.args.l c.args.q) _ 0 _ _ c.call_fault-fault.ensures.says refl c.if-fault-ne0.true

pub estimate_all-est-requires : goal.estimate_all-est-requires
estimate_all-est-requires c = let k = c.call_fault-fault.ensures.order c.if-fault-ne0.false in (k.few, k.released)

pub fill-requires : goal.fill-requires
fill-requires c = ((c.call_fault-fault.ensures.order c.if-fault-ne0.false).few, at_most _ _ (c.call_fault-fault.ensures.order c.if-fault-ne0.false).room)

pub returns : goal.returns
returns c = fills_behind (call_checks_lem (ltb (length c.args.out.now) c.args.q.jobs) 0 c.args.l c.args.q) _ 0 _ _ c.call_fault-fault.ensures.says c.if-fault-ne0.false accepted 0 (entry c.estimate_all-est.result) (refl, refl, c.estimate_all-est.ensures) c.done.ensures c.fill.ensures
