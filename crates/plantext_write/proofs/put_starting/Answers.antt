use mathlib.Core.Path.{◌≡◌, refl, ◌∙◌}
use native.Mathlib.Omega.{arith}
use lib.ListN.{length}
use Rattle.rules.specs.Pairs.{joined}
use Rattle.rules.specs.Plans.{starts}
use Rattle.rules.proofs.Joined.{next_room}
use Rattle.tables.specs.Tables.{problem}
use Rattle.lines.proofs.Laws.{lays_none}
use Rattle.plantext_write.specs.Steps.{step_at}
use Rattle.plantext_write.proofs.Laws.{puts_next}
use borrow.Author.Rules.{rules}
use Rattle.plantext_write.proofs.put_starting.Goals as goal

pub loop-j-init : goal.loop-j-init
unfolding joined
loop-j-init c = (omega arith, refl, lays_none _ _)

pub put_step-next-requires : goal.put_step-next-requires
put_step-next-requires c = let a = c.args in (c.requires.0, omega arith, next_room (step_at a.names.now (problem a.l a.q) (starts a.s.now) a.t) c.loop-j.j a.q.jobs _ a.at c.loop-j.next (length c.loop-j.out) c.loop-j-test.true refl c.loop-j.invariant.2.next (omega (arith, c.requires.1)))

pub loop-j-preserved : goal.loop-j-preserved
loop-j-preserved c = let a = c.args in (omega arith, c.out-1.given ∙ c.loop-j.invariant.1, puts_next (step_at a.names.now (problem a.l a.q) (starts a.s.now) a.t) c.loop-j.j (search rules) c.loop-j.invariant.2 c.put_step-next.ensures)

pub shape_of-out : goal.shape_of-out
shape_of-out c = c.loop-j.invariant.1

pub returns : goal.returns
returns c = let e : c.loop-j.j ≡ c.args.q.jobs = omega arith in rw e at c.loop-j.invariant.2
