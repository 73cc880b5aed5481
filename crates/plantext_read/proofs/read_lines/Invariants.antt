use Prim.Native.Nat.{◌-◌}
use lib.ListN.{length}
use Rattle.tables.specs.Tables.{problem}
use Rattle.plantext_read.proofs.Laws.{Going}
use Rattle.plantext_read.proofs.read_lines.Given as goal

abbrev pub invariant-loop-at : goal.invariant-loop-at
invariant-loop-at l = Going (problem l.l l.q) l.names l.text l.k l.at l.starts

abbrev pub decreases-loop-at : goal.decreases-loop-at
decreases-loop-at l = length l.text - l.at
