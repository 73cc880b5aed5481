use borrow.Author.Rules.{rules}
use mathlib.Core.Path.{ap, ◌∙◌}
use Rattle.opentable.specs.Open.{open_checks, reclashed}
use Rattle.opentable.proofs.Edits.{both, refused_so, accepted_so, open_accepts}
use Rattle.opentable.proofs.judged.Goals as goal

pub returns-then-answer-ne0 : goal.returns-then-answer-ne0
returns-then-answer-ne0 c = let a = c.args in
    refused_so (open_checks a.u) c.table_fault-answer.result a.value (reclashed a.u a.k) a.t c.table_fault-answer.ensures.says c.if-answer-ne0.true

pub reclashed-table-requires : goal.reclashed-table-requires
reclashed-table-requires c = (search rules, c.table_fault-answer.ensures.order c.if-answer-ne0.false)

pub returns : goal.returns
returns c = let a = c.args in
    ap (both c.done.result) c.reclashed-table.ensures ∙ accepted_so (open_checks a.u) c.done.result a.value (reclashed a.u a.k) a.t (open_accepts a.u c.table_fault-answer.result c.table_fault-answer.ensures.says c.if-answer-ne0.false) c.done.ensures
