use mathlib.Core.Path.{◌≡◌, refl}
use Prim.Native.Nat.{◌-◌}
use native.Mathlib.Omega.{arith}
use Rattle.rules.specs.Plans.{starts, holds}
use Rattle.tables.specs.Tables.{problem}
use Rattle.verdict.proofs.Steps.{moved, finished}
use Rattle.verdict.proofs.facts_at.Goals as goal

pub loop-next-init : goal.loop-next-init
unfolding holds
loop-next-init c = (c.next_finish-next.ensures.later, c.next_finish-next.ensures.least, moved (problem c.args.l c.args.q) (starts c.args.s.now) 0 _ _ _ c.next_finish-next.ensures (λ p. refl))

pub loop-next-smaller : goal.loop-next-smaller
loop-next-smaller c = omega (arith, c.next_finish-next-in-loop-next.ensures.later)

pub loop-next-preserved : goal.loop-next-preserved
loop-next-preserved c = (omega (arith, c.next_finish-next-in-loop-next.ensures.later), c.next_finish-next-in-loop-next.ensures.least, moved (problem c.args.l c.args.q) (starts c.args.s.now) c.loop-next.next _ _ _ c.next_finish-next-in-loop-next.ensures (finished (problem c.args.l c.args.q) (starts c.args.s.now) c.loop-next.next c.loop-next.state _ c.loop-next.invariant.0 c.loop-next.invariant.2 c.after_finishes-state.ensures))

pub returns : goal.returns
returns c = let e : c.loop-next.next - 1 ≡ c.args.t = omega (arith, c.from-till.ensures) in λ p. rw e at (c.loop-next.invariant.2 p)
