use native.Mathlib.Omega.{arith}
use Rattle.page.proofs.Pages.{ready, shows_no, shows_plan}
use Rattle.lines.proofs.Laws.{lays_fit}
use borrow.Author.Rules.{rules}
use Rattle.page.proofs.put_table.Goals as goal

pub returns-then-a-ne0 : goal.returns-then-a-ne0
returns-then-a-ne0 c = let a = c.args in record { text = _; is = shows_no a.l a.q _ _ c.least_bound-a.ensures c.if-a-ne0.true; lays = lays_fit c.put_refused.ensures (omega (arith, c.put_refused.ensures.fits)) }

pub put_plan-requires : goal.put_plan-requires
put_plan-requires c =
    let a = c.args in
    let h = ready a.l a.q _ _ _ c.starts-1.given c.least_bound-a.ensures c.if-a-ne0.false in
    (h.0, h.1, search rules)

pub returns : goal.returns
returns c =
    let a = c.args in
    record { text = _; is = shows_plan a.l a.q _ _ c.least_bound-a.ensures c.if-a-ne0.false; lays = c.put_plan.ensures }
