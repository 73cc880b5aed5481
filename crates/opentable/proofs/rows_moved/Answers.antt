use lib.ListN.{get_or}
use Rattle.std.proofs.Common.{rules}
use Rattle.facts.specs.Facts.{has}
use Rattle.readings.specs.Opening.{word_of}
use Rattle.opentable.specs.Open.{moved_from}
use Rattle.opentable.proofs.Arrays.{placed}
use Rattle.opentable.proofs.rows_moved.Goals as goal

pub returns : goal.returns
returns c =
    let a = c.args in
    placed _ _ _ 0 (λ i. word_of (λ j. has (get_or a.rows (moved_from a.k i) 0) (moved_from a.k j)) 32) (λ i y q l k. (search rules, search rules)) c.from_fn.ensures.items
