use borrow.Author.Tests.{not-true, not-false}
use Rattle.times.proofs.Laws.{found_late, found}
use Rattle.times.proofs.least_starts.Goals as goal

pub returns-then-not-all_end : goal.returns-then-not-all_end
returns-then-not-all_end c = found_late c.args.l c.args.q c.args.pairs.now c.requires c.begin-t.result c.begin-t.ensures (c.all_end.ensures.nay (not-true _ c.if-not-all_end.true-raw))

pub returns : goal.returns
returns c = found c.args.l c.args.q c.args.pairs.now c.requires c.begin-t.result c.begin-t.ensures (c.all_end.ensures.yea (not-false _ c.if-not-all_end.false-raw)) c.rounds.result c.rounds.ensures
