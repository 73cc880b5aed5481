use native.Mathlib.Omega.{arith}
use Prim.Native.Nat.{◌+◌}
use mathlib.Core.Path.{◌≡◌}
use Rattle.tables.specs.Tables.{job_at}
use Rattle.rules.specs.Sums.{sum}
use Rattle.planning.proofs.Laws.{sum_next}
use Rattle.planning.proofs.all_durations.Goals as goal

pub loop-j-init : goal.loop-j-init
unfolding sum
loop-j-init c = (omega arith, omega (arith, c.from-all.ensures), omega (arith, c.from-all.ensures))

pub overflow_add-all : goal.overflow_add-all
overflow_add-all c = omega (arith, c.span-all.ensures.1)

pub loop-j-preserved : goal.loop-j-preserved
loop-j-preserved c =
    let a = c.args in
    (omega arith, omega (arith, c.span-all.ensures.0, sum_next (λ i. (job_at a.l i).duration + a.gap) c.loop-j.j), omega (arith, c.span-all.ensures.1))

pub returns : goal.returns
returns c = let e : c.loop-j.j ≡ c.args.n = omega arith in rw e at c.loop-j.invariant.1
