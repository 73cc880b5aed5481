use native.Mathlib.Omega.{arith}
use lib.Dec.{eqb}
use lib.ListN.{length}
use Rattle.batches.proofs.Laws.{first_done_le}
use Rattle.batches.proofs.Jobs.{word_from}
use Rattle.batches.proofs.whole_table.Goals as goal

pub with_batches-d-requires : goal.with_batches-d-requires
with_batches-d-requires c = c.requires

pub overflow_cast-ask : goal.overflow_cast-ask
overflow_cast-ask c =
    let gs = c.args.groups.now in
    omega (arith, c.with_batches-d.ensures.facts, first_done_le gs c.requires.0 (length gs) (omega arith), c.requires.1)

pub with-requires : goal.with-requires
with-requires c = omega arith

pub returns : goal.returns
returns c =
    let d = c.with_batches-d.ensures in
    record {
      done = c.done.ensures;
      table = record { count = d.jobs; facts = d.facts; bay = word_from (λ p. eqb p 0) c.with.result c.with.ensures; last = d.goals; batch = d.batch };
    }
