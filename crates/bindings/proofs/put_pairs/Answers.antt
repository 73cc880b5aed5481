use mathlib.Core.Path.{◌≡◌, refl, ◌∙◌}
use native.Mathlib.Omega.{arith}
use lib.ListN.{length}
use Rattle.rules.specs.Pairs.{joined, pair_bytes}
use Rattle.rules.specs.Plans.{starts}
use Rattle.tables.specs.Tables.{problem}
use Rattle.rules.proofs.Joined.{next_room}
use Rattle.bindings.proofs.Filled.{puts_none, puts_next}
use Rattle.bindings.specs.Steps.{pair_row}
use Rattle.bindings.proofs.put_pairs.Goals as goal

pub loop-a-init : goal.loop-a-init
unfolding joined
loop-a-init c = (refl, puts_none _ _)

pub put_row-next-requires : goal.put_row-next-requires
unfolding pair_bytes
put_row-next-requires c = ((omega arith, omega arith), omega arith, c.all_feeders-f.ensures, next_room (λ x. pair_row (problem c.args.l c.args.q) (starts c.args.s.now) x c.args.q.jobs) c.loop-a.a c.args.q.jobs _ 0 c.loop-a.next (length c.loop-a.out) c.loop-a-test.true refl c.loop-a.invariant.1.next (omega (arith, c.requires.1)))

pub loop-a-preserved : goal.loop-a-preserved
loop-a-preserved c = (c.out-1.given ∙ c.loop-a.invariant.0, puts_next (λ x. pair_row (problem c.args.l c.args.q) (starts c.args.s.now) x c.args.q.jobs) c.loop-a.a c.loop-a.invariant.1 c.put_row-next.ensures)

pub shape_of-out : goal.shape_of-out
shape_of-out c = c.loop-a.invariant.0

pub returns : goal.returns
unfolding pair_bytes
returns c = let e : c.loop-a.a ≡ c.args.q.jobs = omega arith in rw e at c.loop-a.invariant.1
