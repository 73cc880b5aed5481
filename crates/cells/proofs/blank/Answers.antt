use Rattle.cells.proofs.Changes.{zeros, blank_none, blank_next}
use Rattle.cells.specs.View.{Blank}
use mathlib.Core.Path.{◌≡◌, subst}
use Prim.Native.Nat.{ℕ}
use native.Mathlib.Omega.{arith}
use borrow.Author.Rules.{rules}
use Rattle.cells.proofs.blank.Goals as goal

pub loop-j-init : goal.loop-j-init
loop-j-init c = (omega arith, search rules, blank_none (zeros 100))

pub loop-j-preserved : goal.loop-j-preserved
loop-j-preserved c = (omega arith, search rules, blank_next c.loop-j.invariant.2 (omega (arith, c.loop-j.invariant.1)))

pub returns : goal.returns
returns c = (let e : c.loop-j.j ≡ 24 = omega arith in subst (λ (n : ℕ). Blank c.loop-j.s n) e c.loop-j.invariant.2)
