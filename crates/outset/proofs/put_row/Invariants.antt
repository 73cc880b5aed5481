use Rattle.outset.specs.Outset.{RowPut}
use Prim.Native.Nat.{◌-◌, ◌≤◌}
use Rattle.outset.proofs.put_row.Given as goal

abbrev pub invariant-loop-b : goal.invariant-loop-b
invariant-loop-b l = (l.b ≤ 25) × RowPut l.row l.a l.b l.initial.t l.t

abbrev pub decreases-loop-b : goal.decreases-loop-b
decreases-loop-b l = 25 - l.b
