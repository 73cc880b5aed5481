use borrow.Author.Rules.{rules}
use Rattle.entries.specs.Entries.{entry}
use Rattle.times.proofs.Laws.{pushed_none, pushed_on, round_none, round_last, round_less}
use Rattle.times.proofs.rounds.Goals as goal

pub loop-next-init : goal.loop-next-init
loop-next-init c = (search rules, pushed_none c.args.l c.args.q c.args.pairs.now (entry c.args.t))

pub returns-in_err-next : goal.returns-in_err-next
returns-in_err-next c =
    let a = c.args in
    rw c.from_residual.ensures (round_none a.l a.q a.pairs.now c.requires a.t c.loop-next.s c.loop-next.invariant.1 c.in_err-next.ensures)

pub same-requires : goal.same-requires
same-requires c = c.requires.few

pub returns-then-same : goal.returns-then-same
returns-then-same c =
    let a = c.args in
    let s = c.loop-next.s in
    let z = c.in_ok-next.next in (
      pushed_on a.l a.q a.pairs.now (entry a.t) (entry s) (entry z) c.loop-next.invariant.1 c.in_ok-next.ensures.0,
      round_last a.l a.q a.pairs.now c.requires s z c.in_ok-next.ensures.1 (c.same.ensures.yea c.if-same.true),
    )

pub loop-next-smaller : goal.loop-next-smaller
loop-next-smaller c =
    let a = c.args in
    let s = c.loop-next.s in
    round_less a.l a.q a.pairs.now c.requires s c.in_ok-next.next c.in_ok-next.ensures.0 (c.same.ensures.nay c.if-same.false)

pub loop-next-preserved : goal.loop-next-preserved
loop-next-preserved c =
    let a = c.args in
    (search rules, pushed_on a.l a.q a.pairs.now (entry a.t) (entry c.loop-next.s) (entry c.in_ok-next.next) c.loop-next.invariant.1 c.in_ok-next.ensures.0)
