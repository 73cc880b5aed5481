use mathlib.Core.Path.{refl}
use lib.ListN.{replicate, get_or-replicate}
use native.Mathlib.Omega.{arith}
use Rattle.tables.specs.Tables.{problem}
use Rattle.plantext.proofs.Lines.{next_later}
use Rattle.plantext_read.proofs.Laws.{reached, few_lines, begins, passed_line, line_is_good, job_told, start_fits, job_fits_lem, goes_on, ends_bad, ends_over}
use Rattle.plantext_read.proofs.read_lines.Goals as goal

pub loop-at-init : goal.loop-at-init
loop-at-init c = let a = c.args in begins (problem a.l a.q) a.names.now a.text.now (replicate 24 65535) refl (λ j h. get_or-replicate 24 j 65535 0 h) c.requires

pub line_fault-answer-requires : goal.line_fault-answer-requires
line_fault-answer-requires c = let a = c.args in let P = problem a.l a.q in (c.requires, few_lines P a.names.now a.text.now _ _ _ c.loop-at.invariant c.requires, reached P a.names.now a.text.now _ _ _ c.loop-at.invariant (omega arith))

pub returns-then-answer-ne0 : goal.returns-then-answer-ne0
returns-then-answer-ne0 c = let a = c.args in ends_bad (problem a.l a.q) a.names.now a.text.now _ _ _ c.loop-at.invariant c.loop-at-test.true c.line_fault-answer.ensures c.if-answer-ne0.true

pub value_at-requires : goal.value_at-requires
value_at-requires c = omega (arith, c.loop-at-test.true)

pub overflow_cast-starts : goal.overflow_cast-starts
overflow_cast-starts c = let a = c.args in let P = problem a.l a.q in let k = c.loop-at.k in omega (arith, start_fits P a.names.now a.text.now k _ _ c.loop-at.invariant (line_is_good P a.names.now a.text.now k c.line_fault-answer.ensures c.if-answer-ne0.false) c.value_at.ensures)

pub bounds-starts-answer : goal.bounds-starts-answer
bounds-starts-answer c = let a = c.args in let P = problem a.l a.q in let k = c.loop-at.k in omega (arith, c.loop-at.invariant.long, job_fits_lem P a.names.now a.text.now k c.requires (line_is_good P a.names.now a.text.now k c.line_fault-answer.ensures c.if-answer-ne0.false) (job_told P a.names.now a.text.now k c.line_fault-answer.ensures c.if-answer-ne0.false))

pub next_line-at-requires : goal.next_line-at-requires
next_line-at-requires c = omega (arith, c.loop-at-test.true)

pub loop-at-smaller : goal.loop-at-smaller
loop-at-smaller c = let a = c.args in omega (arith, next_later a.text.now c.loop-at.at, c.next_line-at.ensures)

pub loop-at-preserved : goal.loop-at-preserved
loop-at-preserved c = let a = c.args in let P = problem a.l a.q in let k = c.loop-at.k in goes_on P a.names.now a.text.now k _ _ _ _ _ c.loop-at.invariant c.requires c.loop-at-test.true (passed_line P a.names.now a.text.now k c.line_fault-answer.ensures c.if-answer-ne0.false) (line_is_good P a.names.now a.text.now k c.line_fault-answer.ensures c.if-answer-ne0.false) (job_told P a.names.now a.text.now k c.line_fault-answer.ensures c.if-answer-ne0.false) c.value_at.ensures c.next_line-at.ensures

pub returns : goal.returns
returns c = let a = c.args in ends_over (problem a.l a.q) a.names.now a.text.now _ _ _ c.loop-at.invariant (omega arith)
