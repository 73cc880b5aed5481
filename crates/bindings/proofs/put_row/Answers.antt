use mathlib.Core.Bool.{Bool}
use mathlib.Core.Path.{◌≡◌, refl, ap, ◌∙◌, subst}
use native.Mathlib.Omega.{arith}
use lib.ListN.{length}
use Rattle.rules.specs.Pairs.{binds, joined, pair_if}
use Rattle.rules.specs.Plans.{starts}
use Rattle.tables.specs.Tables.{problem}
use Rattle.rules.proofs.Joined.{next_room}
use Rattle.bindings.proofs.Filled.{puts_none, puts_next}
use Rattle.bindings.specs.Steps.{Appends}
use Rattle.bindings.proofs.put_row.Goals as goal

pub loop-b-init : goal.loop-b-init
unfolding joined
loop-b-init c = (refl, puts_none _ _)

pub put_if-next-requires : goal.put_if-next-requires
put_if-next-requires c = (omega arith, omega arith, next_room (λ b. pair_if (binds (problem c.args.l c.args.q) (starts c.args.s.now) c.args.a b) c.args.a b) c.loop-b.b c.args.q.jobs _ c.args.at c.loop-b.next (length c.loop-b.out) c.loop-b-test.true (ap (λ (y : Bool). pair_if y c.args.a c.loop-b.b) c.binds.ensures) c.loop-b.invariant.1.next (omega (arith, c.requires.3)))

pub loop-b-preserved : goal.loop-b-preserved
loop-b-preserved c = (c.out-1.given ∙ c.loop-b.invariant.0, puts_next (λ b. pair_if (binds (problem c.args.l c.args.q) (starts c.args.s.now) c.args.a b) c.args.a b) c.loop-b.b c.loop-b.invariant.1 (subst (λ (y : Bool). Appends (pair_if y c.args.a c.loop-b.b) c.loop-b.next c.loop-b.out c.put_if-next.new.out c.put_if-next.result) c.binds.ensures c.put_if-next.ensures))

pub shape_of-out : goal.shape_of-out
shape_of-out c = c.loop-b.invariant.0

pub returns : goal.returns
returns c = let e : c.loop-b.b ≡ c.args.q.jobs = omega arith in rw e at c.loop-b.invariant.1
