use Rattle.tables.specs.Tables.{problem}
use Rattle.times.specs.Times.{wanted}
use Rattle.entries.specs.Entries.{entry}
use Rattle.lateness.proofs.Laws.{solved_kept, solved_some}
use Rattle.lateness.proofs.settled_finish.Goals as goal

pub unwrap-requires : goal.unwrap-requires
unwrap-requires c = let a = c.args in solved_kept (problem a.l a.q) (wanted a.l a.q a.pairs.now) c.least_starts.result c.least_starts.ensures c.requires.1

pub returns : goal.returns
returns c =
    let a = c.args in
    record {
      z = entry c.unwrap.result;
      settled = solved_some (problem a.l a.q) (wanted a.l a.q a.pairs.now) c.least_starts.ensures c.unwrap.ensures;
      last = c.last_finish.ensures;
    }
