use mathlib.Core.Path.{◌∙◌}
use native.Mathlib.Omega.{arith}
use lib.Dec.{lt→ltb, ltb→lt}
use Rattle.facts.proofs.Bools.{test_yes, test_no}
use Rattle.rules.specs.Table.{table_checks}
use Rattle.refusals.proofs.Refused.{if_hit, if_pass}
use Rattle.rules.proofs.Checked.{in_range_lem}
use Rattle.tables.proofs.Laws.{said}
use Rattle.tables.proofs.Calls.{judged_call}
use Rattle.tables.proofs.call_fault.Goals as goal

pub returns-then-too_short : goal.returns-then-too_short
returns-then-too_short c = judged_call _ _ _ _ (c.refuse.ensures ∙ said 0 0 (if_hit _ 3 0 _ (test_yes c.too_short.ensures c.if-too_short.true)))

pub returns-then-atoms_wrong : goal.returns-then-atoms_wrong
unfolding table_checks
returns-then-atoms_wrong c = judged_call _ _ _ _ (c.refuse-then-atoms_wrong.ensures ∙ said 0 0 (if_pass _ 3 0 _ (test_no c.too_short.ensures c.if-too_short.false) ∙ if_hit _ 4 0 _ (test_yes c.atoms_wrong.ensures c.if-atoms_wrong.true)))

pub returns-then-q-gt24 : goal.returns-then-q-gt24
unfolding table_checks
returns-then-q-gt24 c = judged_call _ _ _ _ (c.refuse-then-q-gt24.ensures ∙ said 0 0 (if_pass _ 3 0 _ (test_no c.too_short.ensures c.if-too_short.false) ∙ if_pass _ 4 0 _ (test_no c.atoms_wrong.ensures c.if-atoms_wrong.false) ∙ if_hit _ 5 0 _ (lt→ltb 24 _ c.if-q-gt24.true)))

pub jobs_fault-requires : goal.jobs_fault-requires
jobs_fault-requires c = (omega arith, (in_range_lem 1 64 _ (test_no c.atoms_wrong.ensures c.if-atoms_wrong.false)).1)

pub returns : goal.returns
unfolding table_checks
returns c = judged_call _ _ _ _ (c.jobs_fault.ensures ∙ said 0 0 (if_pass _ 3 0 _ (test_no c.too_short.ensures c.if-too_short.false) ∙ if_pass _ 4 0 _ (test_no c.atoms_wrong.ensures c.if-atoms_wrong.false) ∙ if_pass _ 5 0 _ (λ h. omega (arith, ltb→lt 24 c.args.q.jobs h))))
