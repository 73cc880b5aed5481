use borrow.Author.Rules.{rules}
use native.Mathlib.Omega.{arith}
use Rattle.std.specs.Prelude.{Some, None}
use Rattle.entries.specs.Entries.{entry}
use Rattle.times.proofs.Laws.{pushes_by, pushed_none, pair_none, pair_pushed, pair_behind}
use Rattle.times.proofs.round.Goals as goal

pub loop-k-init : goal.loop-k-init
loop-k-init c = (search rules, pushed_none c.args.l c.args.q c.args.pairs.now (entry c.args.t), λ i h. absurd (omega arith))

pub returns-in_err-s : goal.returns-in_err-s
returns-in_err-s c =
    let a = c.args in
    let k = c.loop-k in
    rw c.from_residual.ensures
    (pair_none a.l a.q a.pairs.now c.requires (entry a.t) k.s k.k c.loop-k-test.true k.invariant.1 (pushes_by a.l a.q k.s None c.from-a.ensures c.from-b.ensures c.gap-gap.ensures c.in_err-s.ensures).1)

pub loop-k-preserved : goal.loop-k-preserved
loop-k-preserved c =
    let a = c.args in
    let k = c.loop-k in
    let y = c.in_ok-s.field-0 in
    let p = pushes_by a.l a.q k.s (Some y) c.from-a.ensures c.from-b.ensures c.gap-gap.ensures c.in_ok-s.ensures in rw c.from-b.ensures (
      search rules,
      pair_pushed a.l a.q a.pairs.now c.requires (entry a.t) k.s k.k c.loop-k-test.true k.invariant.1 y p,
      pair_behind a.l a.q a.pairs.now c.requires (entry a.t) k.s k.k c.loop-k-test.true k.invariant.1 k.invariant.2 y p,
    )

pub returns : goal.returns
returns c = (c.loop-k.invariant.1, λ i h. c.loop-k.invariant.2 i (omega arith))
