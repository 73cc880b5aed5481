use Rattle.plantext.proofs.Laws.{other_yes, other_no}
use Rattle.plantext.proofs.namesake.Goals as goal

pub returns-then-i-j : goal.returns-then-i-j
returns-then-i-j c = let a = c.args in other_yes a.i a.j c.if-i-j.true c.is_named.ensures

pub returns-else-i-j : goal.returns-else-i-j
returns-else-i-j c = let a = c.args in other_no a.i a.j _ c.if-i-j.false
