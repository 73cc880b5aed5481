use Rattle.tables.proofs.Laws.{strays_none, strays_shr}
use Rattle.tables.proofs.word_strays.Goals as goal

pub returns-then-atoms-eq64 : goal.returns-then-atoms-eq64
returns-then-atoms-eq64 c = rw c.if-atoms-eq64.true (strays_none c.args.w c.ranges.w.fits)

pub returns : goal.returns
returns c = strays_shr c.args.atoms c.args.w
