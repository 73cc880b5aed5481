use mathlib.Core.Path.{ap, ◌≡◌, refl, ◌∙◌}
use Prim.Native.Nat.{◌+◌, ◌*◌}
use native.Mathlib.Omega.{arith}
use lib.Dec.{eqb}
use lib.ListN.{length}
use Rattle.rules.specs.Plans.{starts}
use Rattle.rules.specs.Supports.{support_byte}
use Rattle.tables.proofs.Lent.{length_filled}
use Rattle.tables.specs.Tables.{problem, filled}
use Rattle.bindings.proofs.Bytes.{byte_row}
use Rattle.bindings.proofs.Filled.{support_at}
use Rattle.bindings.proofs.fill_supports.Goals as goal

pub loop-b-init : goal.loop-b-init
unfolding filled
loop-b-init c = (omega arith, refl)

pub fill_row-requires : goal.fill_row-requires
fill_row-requires c = (omega arith, omega (arith, ap length c.loop-b.invariant.1 ∙ length_filled _ _ _))

pub loop-b-preserved : goal.loop-b-preserved
loop-b-preserved c = (omega arith, let e : 64 * c.loop-b.b + 64 ≡ 64 * (c.loop-b.b + 1) = omega arith in rw e at (c.fill_row.ensures (support_byte (problem c.args.l c.args.q) c.args.q.bound (starts c.args.s.now)) c.args.out.now (λ p h. byte_row (problem c.args.l c.args.q) c.args.q.bound (starts c.args.s.now) c.loop-b.b p c.row_of.result (eqb c.loop-b.b c.args.q.jobs) c.row_of.ensures ∙ support_at (problem c.args.l c.args.q) c.args.q.bound (starts c.args.s.now) c.loop-b.b p h) c.loop-b.invariant.1))

pub shape_of-out : goal.shape_of-out
shape_of-out c = ap length c.loop-b.invariant.1 ∙ length_filled _ _ _

pub returns : goal.returns
returns c = let e : c.loop-b.b ≡ c.args.q.jobs + 1 = omega arith in rw e at c.loop-b.invariant.1
