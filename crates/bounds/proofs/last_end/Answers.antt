use Rattle.bounds.proofs.Laws.{end_next}
use Rattle.leaves.specs.Leaf.{plan_of}
use Rattle.facts.proofs.Lists.{get_d_any}
use mathlib.Core.Path.{◌≡◌}
use native.Mathlib.Omega.{arith}
use Rattle.bounds.proofs.last_end.Goals as goal

pub loop-j-preserved : goal.loop-j-preserved
loop-j-preserved c = let pre = c.requires in λ P l. end_next P (plan_of c.args.out.now) c.loop-j.j c.loop-j.end _ _ _ (get_d_any c.args.out.now c.loop-j.j 65535 0 (omega (arith, pre.0.listed.few, pre.0.listed.count, c.count-n.ensures, pre.1))) (omega (arith, l.steps c.loop-j.j (omega (arith, pre.0.listed.few, pre.0.listed.count, c.count-n.ensures)), l.gap, c.step.ensures, c.gap-gap.ensures)) (c.loop-j.invariant P l) c.later-end.ensures

pub returns : goal.returns
returns c = λ P l. (let e : c.loop-j.j ≡ P.count = omega (arith, l.count, c.count-n.ensures, c.loop-j-test.false) in rw e at (c.loop-j.invariant P l))
