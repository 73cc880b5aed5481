use mathlib.Core.Path.{ap, ◌∙◌}
use Rattle.rules.specs.declared.Hindrance.{Hindrance}
use Rattle.entries.specs.Entries.{entry}
use Rattle.reasons.specs.Reasons.{reason_of}
use Rattle.reasons.proofs.Calls.{not_checked, checked}
use Rattle.reasons.proofs.why_no_plan.Goals as goal

pub returns-then-fault-ne0 : goal.returns-then-fault-ne0
returns-then-fault-ne0 c = let a = c.args in not_checked a.l a.q c.call_fault-fault.ensures c.if-fault-ne0.true c.no_reason.ensures

pub estimate_all-est-requires : goal.estimate_all-est-requires
estimate_all-est-requires c = let k = c.call_fault-fault.ensures.order c.if-fault-ne0.false in (k.few, k.released)

pub hindrance-requires : goal.hindrance-requires
hindrance-requires c = (c.call_fault-fault.ensures.order c.if-fault-ne0.false).few

pub returns : goal.returns
returns c = let a = c.args in checked a.l a.q c.call_fault-fault.ensures c.if-fault-ne0.false (entry c.estimate_all-est.result) c.estimate_all-est.ensures (c.into.ensures ∙ ap (λ (h : Hindrance). reason_of h) c.hindrance.ensures)
