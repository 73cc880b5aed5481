use Rattle.tables.specs.Tables.{job_at}
use Rattle.lines.specs.Lines.{job_line}
use Prim.Native.Nat.{◌+◌}
use mathlib.Core.Path.{sym, ◌∙◌}
use borrow.Author.Tests.{eq-eqb, ne_eqb}
use lib.ListN.{get_or}
use lib.Dec.{eqb}
use native.Mathlib.Omega.{arith}
use Rattle.lines.proofs.Laws.{lays_none, lays_fit, text_yes, text_no}
use Rattle.page.proofs.put_start.Goals as goal

pub returns-then-from-t : goal.returns-then-from-t
returns-then-from-t c = let a = c.args in rw (text_no (eqb (get_or a.s.now a.j 0) a.t) (job_line (get_or a.s.now a.j 0) (get_or a.s.now a.j 0 + (job_at a.l a.j).duration) a.j) (ne_eqb _ _ (λ e. c.if-from-t.true (c.from.ensures ∙ e)))) (lays_fit (lays_none a.at a.out.now) (omega arith))

pub returns : goal.returns
returns c = let a = c.args in rw (text_yes (eqb (get_or a.s.now a.j 0) a.t) (job_line (get_or a.s.now a.j 0) (get_or a.s.now a.j 0 + (job_at a.l a.j).duration) a.j) (eq-eqb _ _ (sym c.from.ensures ∙ c.if-from-t.false))) (rw (c.from-2.ensures, c.finish-end.ensures) at c.put_job.ensures)
