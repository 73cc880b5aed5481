use Rattle.tables.specs.Tables.{unmarked}
use borrow.Author.Tests.{lt-ltb, le-ltb}
use Rattle.tables.proofs.gap.Goals as goal

pub returns-then-q-lt128 : goal.returns-then-q-lt128
unfolding unmarked
returns-then-q-lt128 c = simp (lt-ltb _ _ c.if-q-lt128.true)

pub returns : goal.returns
unfolding unmarked
returns c = simp (le-ltb _ _ c.if-q-lt128.false)
