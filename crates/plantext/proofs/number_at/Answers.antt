use native.Mathlib.Omega.{arith}
use borrow.Author.Tests.{not-false}
use Rattle.plantext.proofs.Laws.{number_no, number_plain, number_point}
use Rattle.plantext.proofs.number_at.Goals as goal

pub returns-then-not-from_to : goal.returns-then-not-from_to
returns-then-not-from_to c = let a = c.args in number_no a.text.now a.at c.digits_end-end.ensures.0 c.from_to.ensures c.if-not-from_to.true-raw

pub returns-then-not-point_at : goal.returns-then-not-point_at
returns-then-not-point_at c = let a = c.args in number_plain a.text.now a.at c.digits_end-end.ensures.0 c.from_to.ensures c.if-not-from_to.false-raw c.point_at.ensures.0 c.if-not-point_at.true-raw

pub zeros_end-requires : goal.zeros_end-requires
zeros_end-requires c = omega (arith, c.point_at.ensures.1 (not-false _ c.if-not-point_at.false-raw))

pub returns : goal.returns
returns c = let a = c.args in number_point a.text.now a.at c.digits_end-end.ensures.0 c.from_to.ensures c.if-not-from_to.false-raw c.point_at.ensures.0 c.if-not-point_at.false-raw c.zeros_end.ensures.0
