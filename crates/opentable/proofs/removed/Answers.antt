use mathlib.Core.Path.{ap, ◌∙◌}
use Prim.Native.Nat.{ℕ}
use native.Mathlib.Omega.{arith}
use Rattle.refusals.specs.Refusals.{refused}
use Rattle.tables.specs.Tables.{answer_of}
use Rattle.opentable.specs.Open.{without_job}
use Rattle.opentable.proofs.Edits.{removed_absent, removed_no, removed_so}
use Rattle.opentable.proofs.removed.Goals as goal

pub returns-then-t-k : goal.returns-then-t-k
returns-then-t-k c = removed_absent c.args.t c.args.job c.refuse-answer.result (omega (arith, c.if-t-k.true, c.from-k.ensures)) (c.refuse-answer.ensures ∙ ap (λ (k : ℕ). answer_of (refused 22 k) 0 0) c.from.ensures)

pub returns-then-answer-ne0 : goal.returns-then-answer-ne0
returns-then-answer-ne0 c = removed_no c.args.t c.args.job c.table_fault-answer.result (omega (arith, c.if-t-k.false, c.from-k.ensures)) c.table_fault-answer.ensures.says c.if-answer-ne0.true

pub without-table-requires : goal.without-table-requires
without-table-requires c = (omega (arith, c.if-t-k.false), c.table_fault-answer.ensures.order c.if-answer-ne0.false)

pub returns : goal.returns
returns c = removed_so c.args.t c.args.job c.table_fault-answer.result c.without-table.result (omega (arith, c.if-t-k.false, c.from-k.ensures)) c.table_fault-answer.ensures.says c.if-answer-ne0.false (c.without-table.ensures ∙ ap (without_job c.args.t) c.from-k.ensures)
