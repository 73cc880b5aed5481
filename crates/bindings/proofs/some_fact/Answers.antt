use mathlib.Core.Path.{ap}
use Prim.Native.Nat.{ℕ}
use lib.Dec.{ltb}
use Rattle.facts.specs.Least.{any}
use Rattle.bindings.proofs.some_fact.Goals as goal

pub returns : goal.returns
unfolding any
returns c = ap (λ (x : ℕ). ltb x 64) c.lowest.ensures
