use mathlib.Core.Path.{◌≡◌, refl, ◌∙◌}
use Rattle.lines.specs.Lines.{pair_line}
use borrow.Author.Rules.{rules}
use native.Mathlib.Omega.{arith}
use Rattle.lines.proofs.Laws.{lays_none, lays_fit, lays_line}
use Rattle.rules.specs.Pairs.{joined}
use lib.ListN.{get_or}
use Prim.Native.Nat.{◌+◌, ◌*◌}
use Rattle.page.proofs.put_pairs.Goals as goal

pub loop-i-init : goal.loop-i-init
unfolding joined
loop-i-init c = (omega arith, refl, lays_fit (lays_none _ _) (omega arith))

pub loop-i-preserved : goal.loop-i-preserved
loop-i-preserved c = let a = c.args in (omega arith, c.out-1.given ∙ c.loop-i.invariant.1, lays_line (λ k. pair_line (get_or a.pairs.now (2 * k) 0) (get_or a.pairs.now (2 * k + 1) 0)) 19 c.loop-i.i (search rules) c.loop-i.invariant.2 c.put_pair-next.ensures)

pub shape_of-out : goal.shape_of-out
shape_of-out c = c.loop-i.invariant.1

pub returns : goal.returns
returns c = let e : c.loop-i.i ≡ c.args.n = omega arith in rw e at c.loop-i.invariant.2
