use native.Mathlib.Omega.{arith}
use Rattle.plantext.proofs.Laws.{end_point, end_plain}
use Rattle.plantext.proofs.number_end.Goals as goal

pub zeros_end-requires : goal.zeros_end-requires
zeros_end-requires c = omega (arith, c.point_at.ensures.1 c.if-point_at.true)

pub returns-then-point_at : goal.returns-then-point_at
returns-then-point_at c = let a = c.args in record { says = end_point a.text.now a.at c.digits_end-end.ensures.0 c.point_at.ensures.0 c.if-point_at.true c.zeros_end.ensures.0; fits = omega (arith, c.zeros_end.ensures.1) }

pub returns : goal.returns
returns c = let a = c.args in record { says = end_plain a.text.now a.at c.digits_end-end.ensures.0 c.point_at.ensures.0 c.if-point_at.false; fits = omega (arith, c.digits_end-end.ensures.1) }
