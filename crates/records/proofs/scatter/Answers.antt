use mathlib.Core.Path.{ap, ◌∙◌}
use mathlib.Core.List.{List, ◌++◌}
use native.Mathlib.Omega.{arith}
use lib.ListN.{drop}
use Rattle.tables.specs.declared.Action.{Action}
use Rattle.tables.specs.Tables.{no_job}
use Rattle.tables.proofs.Lent.{filled_copy}
use Rattle.records.proofs.scatter.Goals as goal

pub returns : goal.returns
returns c =
    let a = c.args in
    ap (λ (ts : List Action). ts ++ drop a.n a.t.now) c.copy_from_slice.ensures.after
    ∙ filled_copy a.l.jobs a.t.now no_job a.n (omega arith) c.requires.1
