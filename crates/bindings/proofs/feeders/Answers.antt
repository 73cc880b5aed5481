use mathlib.Core.Path.{◌∙◌}
use native.Mathlib.Omega.{arith}
use borrow.Author.Tests.{ne_eqb}
use Rattle.rules.specs.Plans.{starts}
use Rattle.tables.specs.Tables.{problem}
use Rattle.bindings.proofs.Bytes.{feeds_of}
use Rattle.bindings.proofs.feeders.Goals as goal

pub returns : goal.returns
returns c =
    let x = c.args in
    λ a m h. c.givers.ensures a h ∙ feeds_of (problem x.l x.q) x.q.bound (starts x.s.now) x.b a c.row_of.result _ (ne_eqb x.b x.q.jobs (λ e. omega arith)) c.row_of.ensures h
