use Rattle.tables.specs.Tables.{problem}
use Rattle.reach.proofs.Rounds.{kept_first, kept_next, fewer, exact}
use Rattle.reach.proofs.reachable.Goals as goal

pub loop-l-init : goal.loop-l-init
loop-l-init c = kept_first (problem c.args.l c.args.q) c.requires.1 _ c.opened-s.ensures

pub returns-then-within : goal.returns-then-within
returns-then-within c = exact _ c.requires.1 _ _ c.loop-l.invariant c.round-t.ensures (c.within.ensures.yea c.if-within.true)

pub loop-l-smaller : goal.loop-l-smaller
loop-l-smaller c = fewer _ c.requires.1 _ _ _ c.loop-l.invariant c.round-t.ensures (c.within.ensures.nay c.if-within.false)

pub loop-l-preserved : goal.loop-l-preserved
loop-l-preserved c = kept_next _ c.requires.1 _ _ _ c.loop-l.invariant c.round-t.ensures
