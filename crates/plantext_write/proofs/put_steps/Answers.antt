use mathlib.Core.Path.{◌≡◌, refl, sym, ◌∙◌}
use Prim.Native.Nat.{◌+◌}
use native.Mathlib.Omega.{arith}
use lib.ListN.{length}
use Rattle.rules.specs.Pairs.{joined}
use Rattle.rules.specs.Plans.{starts}
use Rattle.rules.proofs.Joined.{next_room}
use Rattle.tables.specs.Tables.{problem}
use Rattle.lines.proofs.Laws.{lays_none}
use Rattle.plantext.specs.Writing.{steps_text}
use Rattle.plantext_write.specs.Steps.{steps_at}
use Rattle.plantext_write.proofs.Laws.{puts_next, puts_same, skips}
use Rattle.plantext_write.proofs.put_steps.Goals as goal

pub next_start-t-requires : goal.next_start-t-requires
next_start-t-requires c = (c.requires.0.0, omega arith)

pub loop-t-init : goal.loop-t-init
unfolding joined
loop-t-init c = let a = c.args in (c.next_start-t.ensures.least, refl, puts_same (sym (skips a.names.now (problem a.l a.q) (starts a.s.now) 0 _ _ c.next_start-t.ensures)) (lays_none _ _))

pub put_starting-next-requires : goal.put_starting-next-requires
unfolding steps_text
put_starting-next-requires c = let a = c.args in (c.requires.0, next_room (steps_at a.names.now (problem a.l a.q) (starts a.s.now)) c.loop-t.t (a.q.bound + 1) _ 0 c.loop-t.next (length c.loop-t.out) c.loop-t-test.true refl c.loop-t.invariant.2.next (omega (arith, c.requires.1)))

pub next_start-t-requires-in-loop-t : goal.next_start-t-requires-in-loop-t
next_start-t-requires-in-loop-t c = (c.requires.0.0, omega (arith, c.loop-t-test.true))

pub loop-t-smaller : goal.loop-t-smaller
loop-t-smaller c = omega (arith, c.next_start-t-in-loop-t.ensures.later, c.next_start-t-in-loop-t.ensures.least, c.loop-t-test.true)

pub loop-t-preserved : goal.loop-t-preserved
loop-t-preserved c = let a = c.args in
    let P = problem a.l a.q in (
      c.next_start-t-in-loop-t.ensures.least,
      c.out-1.given ∙ c.loop-t.invariant.1,
      puts_same (sym (skips a.names.now P (starts a.s.now) (c.loop-t.t + 1) _ _ c.next_start-t-in-loop-t.ensures)) (puts_next (steps_at a.names.now P (starts a.s.now)) c.loop-t.t (omega arith) c.loop-t.invariant.2 c.put_starting-next.ensures),
    )

pub shape_of-out : goal.shape_of-out
shape_of-out c = c.loop-t.invariant.1

pub returns : goal.returns
unfolding steps_text
returns c = let e : c.loop-t.t ≡ c.args.q.bound + 1 = omega arith in rw e at c.loop-t.invariant.2
