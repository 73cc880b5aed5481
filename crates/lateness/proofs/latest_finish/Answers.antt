use borrow.Author.Rules.{rules}
use Rattle.rules.specs.Plans.{starts}
use Rattle.tables.specs.Tables.{problem}
use Rattle.bindings.proofs.Count.{pairs_room}
use Rattle.lateness.proofs.Laws.{listing_of}
use Rattle.lateness.proofs.latest_finish.Goals as goal

pub put_pairs-n-requires : goal.put_pairs-n-requires
put_pairs-n-requires c =
    let k = c.requires.0 in
    (k.given, pairs_room (problem c.args.l c.args.q) (starts c.args.s.now) k.order k.given.0)

pub finish_by-requires : goal.finish_by-requires
finish_by-requires c =
    let k = c.requires.0 in
    ((c.args.s.now, k, listing_of c.args.l c.args.q c.args.s.now _ _ _ _ k (search rules) c.put_pairs-n.ensures c.plan_jobs.ensures), c.requires.1)

pub returns : goal.returns
returns c =
    let k = c.requires.0 in
    c.finish_by.ensures c.args.s.now k (listing_of c.args.l c.args.q c.args.s.now _ _ _ _ k (search rules) c.put_pairs-n.ensures c.plan_jobs.ensures)
