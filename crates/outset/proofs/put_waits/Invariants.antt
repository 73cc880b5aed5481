use Rattle.outset.specs.Outset.{WaitsPut}
use Rattle.tables.specs.Tables.{problem}
use Rattle.tables.specs.declared.Loaded.{Loaded}
use Rattle.distances.specs.Distances.{Frees}
use Prim.Native.Nat.{◌-◌, ◌≤◌}
use Rattle.outset.proofs.put_waits.Given as goal

abbrev pub invariant-loop-a : goal.invariant-loop-a
invariant-loop-a l = (l.a ≤ l.n) × ((m : Loaded) → Frees m l.free → WaitsPut (problem m l.q) l.a l.initial.t l.t)

abbrev pub decreases-loop-a : goal.decreases-loop-a
decreases-loop-a l = l.n - l.a
