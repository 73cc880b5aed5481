use native.Mathlib.Omega.{arith}
use Rattle.opentable.specs.Open.{moved_from}
use Rattle.opentable.proofs.Laws.{row_behind}
use Rattle.opentable.proofs.row_moved.Goals as goal

pub returns-in-None : goal.returns-in-None
returns-in-None c =
    let a = c.args in
    row_behind a.rows a.k (moved_from a.k a.i) (omega (arith, c.in-None.ensures.lookup, c.moved_from.ensures))
