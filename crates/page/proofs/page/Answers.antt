use native.Mathlib.Omega.{arith}
use Rattle.lines.proofs.Laws.{lays_fit}
use Rattle.jobfile.specs.declared.Read.{Read}
use mathlib.Core.Path.{sym, ap, ◌∙◌}
use Rattle.page.proofs.Pages.{pages_short, pages_no, pages_table}
use Rattle.page.proofs.page.Goals as goal

pub returns-then-out-lt8192 : goal.returns-then-out-lt8192
returns-then-out-lt8192 c = pages_short c.args.file.now c.args.out.now c.if-out-lt8192.true c.refuse.ensures

pub returns-then-said-ne0 : goal.returns-then-said-ne0
returns-then-said-ne0 c = let a = c.args in pages_no a.file.now a.out.now (omega arith) c.done.ensures (λ z. c.if-said-ne0.true (ap (λ (x : Read). x.answer.number) c.read_file-read.ensures ∙ z)) (rw c.read_file-read.ensures at (lays_fit {n = 8192} c.put_refused.ensures (omega (arith, c.put_refused.ensures.fits))))

pub returns : goal.returns
returns c = let a = c.args in pages_table a.file.now a.out.now (omega arith) c.done-2.ensures (sym (ap (λ (x : Read). x.answer.number) c.read_file-read.ensures) ∙ c.if-said-ne0.false) (rw c.read_file-read.ensures at c.put_table.ensures)
