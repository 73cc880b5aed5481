use Rattle.bounds.proofs.Laws.{some_to}
use Rattle.planning.proofs.Laws.{plan_same, plan_none, plan_first}
use native.Mathlib.Omega.{arith}
use borrow.Author.Tests.{not-true, not-false}
use Rattle.planning.proofs.first_within.Goals as goal

pub returns-in_default : goal.returns-in_default
returns-in_default c = plan_none (c.in_default.ensures.1 c.args.top)

pub any_at-requires : goal.any_at-requires
any_at-requires c = let d = c.in-Ok.ensures in record { served = d.searched; listed = d.listed; short = omega (arith, c.requires.short) }

pub returns-then-not-any_at : goal.returns-then-not-any_at
returns-then-not-any_at c = let d = c.in-Ok.ensures in plan_same d (plan_none (c.any_at.ensures.none (not-true _ c.if-not-any_at.true-raw) d.searched d.listed _ (omega arith)))

pub first_at-requires : goal.first_at-requires
first_at-requires c = let d = c.in-Ok.ensures in let k = c.any_at.ensures.kept in (record { served = d.searched; listed = k.to d.searched d.listed; short = c.requires.short }, some_to k (c.any_at.ensures.some (not-false _ c.if-not-any_at.false-raw)))

pub returns : goal.returns
returns c = let d = c.in-Ok.ensures in plan_same d (plan_first c.first_at.ensures d.searched (c.any_at.ensures.kept.to d.searched d.listed))
