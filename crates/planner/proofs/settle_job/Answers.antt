use Rattle.planner.proofs.Laws.{out_of, begins_pruned, lower_ok, in_window, step_out, step_change, step_in}
use native.Mathlib.Omega.{arith}
use mathlib.Core.Path.{sym, ◌∙◌}
use Rattle.planner.proofs.settle_job.Goals as goal

pub returns-then-x : goal.returns-then-x
returns-then-x c = let a = c.args in let pre = c.requires in step_out pre.2 pre.0 (λ P o. out_of a.k a.out.now (sym c.start_of-x.ensures ∙ c.if-x.true) P) c.put_barred.ensures

pub returns-then-try_without : goal.returns-then-try_without
returns-then-try_without c = let pre = c.requires in step_change pre.2 (begins_pruned pre.0 c.sharpen.ensures) c.try_without.ensures c.if-try_without.true c.put_barred-then-try_without.ensures

pub lower-requires : goal.lower-requires
lower-requires c = let pre = c.requires in (lower_ok pre.2 c.start_of-x.ensures c.if-x.false (begins_pruned pre.0 c.sharpen.ensures) c.try_without.ensures c.if-try_without.false, pre.1, pre.3)

pub fix-requires : goal.fix-requires
fix-requires c = let pre = c.requires in let w = in_window pre.2 pre.3 c.lower.ensures c.try_without.ensures c.if-try_without.false in (pre.1, omega (arith, w.0, c.start_of.ensures, c.from-2.ensures), omega (arith, w.1, c.start_of.ensures, c.from-2.ensures))

pub returns : goal.returns
returns c = step_in _ c.requires.2 c.lower.ensures c.try_without.ensures c.if-try_without.false c.fix.ensures (omega (arith, c.start_of.ensures, c.from-2.ensures))
