use mathlib.Core.Bool.{◌&&◌}
use lib.Dec.{ltb}
use Rattle.std.proofs.Common.{rules}
use Rattle.rules.specs.Clashes.{interfere}
use Rattle.tables.specs.Tables.{problem}
use Rattle.opentable.proofs.Given.{word_is}
use Rattle.opentable.proofs.clash_word.Goals as goal

pub returns : goal.returns
returns c q =
    let f = interfere (problem c.args.l q) c.args.k in
    word_is (λ j. ltb j c.args.l.lent && f j) 32 c.those.result c.those.type_inv (λ j l. c.those.ensures.word f (λ i l b h. search rules) j)
