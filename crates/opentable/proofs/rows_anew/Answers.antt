use mathlib.Core.Bool.{cond}
use lib.Dec.{eqb}
use lib.ListN.{get_or}
use Rattle.std.proofs.Common.{rules}
use Rattle.facts.specs.Facts.{has}
use Rattle.readings.specs.Opening.{word_of}
use Rattle.opentable.proofs.Arrays.{placed}
use Rattle.opentable.proofs.rows_anew.Goals as goal

pub returns : goal.returns
returns c =
    let a = c.args in
    placed _ _ _ 0 (λ i. cond (eqb i a.k) a.word (word_of (λ j. cond (eqb j a.k) (has a.word i) (has (get_or a.rows i 0) j)) 32)) (λ i y q l k. (search rules, search rules)) c.from_fn.ensures.items
