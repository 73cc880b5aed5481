use mathlib.Core.Path.{◌≡◌, refl, ◌∙◌}
use native.Mathlib.Nat.{add-zero}
use native.Mathlib.Omega.{arith}
use lib.ListN.{length-set}
use Rattle.bindings.proofs.Filled.{row_more}
use Rattle.bindings.proofs.fill_row.Goals as goal

pub loop-p-init : goal.loop-p-init
loop-p-init c = (omega arith, refl, λ f xs g e. simp add-zero e)

pub bounds-out-base : goal.bounds-out-base
bounds-out-base c = omega arith

pub loop-p-preserved : goal.loop-p-preserved
loop-p-preserved c = (omega arith, length-set c.loop-p.out _ _ ∙ c.loop-p.invariant.1, λ f xs g e. row_more f c.args.base c.loop-p.p _ xs c.loop-p.out (c.support_byte.ensures ∙ g c.loop-p.p (omega arith)) (c.loop-p.invariant.2 f xs g e))

pub shape_of-out : goal.shape_of-out
shape_of-out c = c.loop-p.invariant.1

pub returns : goal.returns
returns c = λ f xs g e. let z : c.loop-p.p ≡ 64 = omega arith in rw z at (c.loop-p.invariant.2 f xs g e)
