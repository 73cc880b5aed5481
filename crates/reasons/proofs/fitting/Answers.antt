use mathlib.Core.Path.{◌≡◌}
use Prim.Native.Nat.{◌+◌}
use native.Mathlib.Omega.{arith}
use lib.Dec.{eqb}
use Rattle.rules.specs.Plans.{finish}
use Rattle.tables.specs.Tables.{problem}
use Rattle.entries.specs.Entries.{entry}
use Rattle.times.specs.Times.{pair_first, pair_second}
use Rattle.times.proofs.Laws.{first_job_lem}
use Rattle.reasons.proofs.Laws.{pair_none, pair_by}
use Rattle.reasons.proofs.fitting.Goals as goal

pub loop-k-init : goal.loop-k-init
loop-k-init c =
    let a = c.args in
    (pair_none (pair_first a.pairs.now) (pair_second a.pairs.now) (λ i. eqb (entry a.z a.j) (finish (problem a.l a.q) (entry a.z) i + (problem a.l a.q).gap)) a.j)

pub fits-requires : goal.fits-requires
fits-requires c =
    let a = c.args in
    (omega (arith, c.from-a.ensures, first_job_lem a.l a.q a.pairs.now c.requires.0 c.loop-k.k c.loop-k-test.true, c.requires.0.few), c.requires.1)

pub with_if-w-requires : goal.with_if-w-requires
with_if-w-requires c =
    let a = c.args in
    omega (arith, c.from-a.ensures, first_job_lem a.l a.q a.pairs.now c.requires.0 c.loop-k.k c.loop-k-test.true, c.requires.0.few)

pub loop-k-preserved : goal.loop-k-preserved
loop-k-preserved c =
    let a = c.args in
    (pair_by (pair_first a.pairs.now) (pair_second a.pairs.now) (λ i. eqb (entry a.z a.j) (finish (problem a.l a.q) (entry a.z) i + (problem a.l a.q).gap)) a.j c.loop-k.k c.loop-k.w _ c.loop-k.invariant c.from-a.ensures c.from-b.ensures c.fits.ensures c.with_if-w.ensures)

pub returns : goal.returns
returns c =
    let e : c.loop-k.k ≡ c.args.q.pairs = omega arith in
    rw e at c.loop-k.invariant
