use lib.ListN.{length}
use Rattle.settle.proofs.Starts.{ready, not_filled, all_filled}
use Rattle.settle.proofs.settle.Goals as goal

pub fill-requires : goal.fill-requires
fill-requires c =
    let a = c.args in
    let k = ready a.l a.q a.pairs.now (length a.out.now) c.in-Ok.starts c.in-Ok.ensures in
    (k.ready.few, k.wide)

pub returns-in-Ok : goal.returns-in-Ok
returns-in-Ok c = let a = c.args in all_filled a.l a.q a.pairs.now a.out.now c.in-Ok.starts c.in-Ok.ensures c.done.ensures c.fill.ensures

pub returns-in-Err : goal.returns-in-Err
returns-in-Err c = let a = c.args in not_filled a.l a.q a.pairs.now a.out.now c.in-Err.answer c.in-Err.ensures
