use Prim.Native.Nat.{◌+◌}
use mathlib.Core.Path.{ap₂}
use lib.Dec.{ltb}
use Rattle.facts.proofs.Bools.{and_first, and_next}
use Rattle.times.proofs.late.Goals as goal

pub returns-then-has : goal.returns-then-has
returns-then-has c = and_next c.has.ensures c.if-has.true (ap₂ ltb c.from.ensures (ap₂ ◌+◌ c.from-then-has.ensures c.from-then-has-2.ensures))

pub returns-else-has : goal.returns-else-has
returns-else-has c = and_first _ c.has.ensures c.if-has.false
