use Rattle.cells.proofs.Changes.{under, follows}
use Rattle.prune.proofs.Laws.{only_more, seen, seen_start, seen_one, seen_waits, seen_none}
use Rattle.prune.proofs.support.Goals as goal

pub returns-then-may_start : goal.returns-then-may_start
returns-then-may_start c h =
    let x = seen c.requires h c.killers-kills.ensures c.adders.ensures c.threats-dang.ensures c.cands-w.ensures c.may_start.ensures in
    under (λ P wf e. seen_start (x P e)) c.with_start.ensures

pub returns-then-w-eq0 : goal.returns-then-w-eq0
returns-then-w-eq0 c h =
    let x = seen c.requires h c.killers-kills.ensures c.adders.ensures c.threats-dang.ensures c.cands-w.ensures c.may_start.ensures in
    under (λ P wf e. seen_none (x P e) c.if-may_start.false c.if-w-eq0.true) c.none_left.ensures

pub returns : goal.returns
returns c h =
    let x = seen c.requires h c.killers-kills.ensures c.adders.ensures c.threats-dang.ensures c.cands-w.ensures c.may_start.ensures in
    follows (under (λ P wf e. seen_waits (x P e) c.if-may_start.false) c.wait.ensures) (λ P e. only_more P (seen_one (x P e) c.if-may_start.false)) c.only_one.ensures
