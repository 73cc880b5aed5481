use borrow.Author.Rules.{rules}
use native.Mathlib.Omega.{arith}
use Rattle.entries.specs.Entries.{entry}
use Rattle.reasons.proofs.Laws.{going_begins, in_places, going_ends, going_on}
use Rattle.reasons.proofs.go_back.Goals as goal

pub loop-j-init : goal.loop-j-init
loop-j-init c =
    let a = c.args in
    in_places a.l a.q a.pairs.now (entry a.z) a.job c.requires _ _ _ (going_begins a.l a.q a.pairs.now (entry a.z) a.job c.requires _ (search rules))

pub bounds-jobs-count : goal.bounds-jobs-count
bounds-jobs-count c = omega (arith, c.loop-j.invariant.1, c.loop-j.invariant.2.room)

pub returns-then-z-j : goal.returns-then-z-j
returns-then-z-j c = let a = c.args in going_ends a.l a.q a.pairs.now (entry a.z) a.job c.requires _ _ _ c.loop-j.invariant.2 c.if-z-j.true

pub fitting-requires : goal.fitting-requires
fitting-requires c = (c.requires.ready, c.loop-j.invariant.0)

pub loop-j-preserved : goal.loop-j-preserved
loop-j-preserved c =
    let a = c.args in
    in_places a.l a.q a.pairs.now (entry a.z) a.job c.requires _ _ _
    (going_on a.l a.q a.pairs.now (entry a.z) a.job c.requires _ _ _ c.loop-j.invariant.2 c.if-z-j.false _ _ c.fitting.ensures c.lowest-j.ensures)
