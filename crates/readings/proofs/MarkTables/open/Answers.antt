-- `readings::MarkTables::open` meets its contract. Assumes nothing.
use mathlib.Core.Path.{◌∙◌}
use native.Mathlib.Omega.{arith}
use Rattle.facts.proofs.Least.{first_some}
use Rattle.readings.specs.Marks.{bad}
use Rattle.readings.specs.Lent.{marks_in}
use Rattle.readings.proofs.Answers.{some_bad, facts_below, none_bad}
use Rattle.readings.proofs.Words.{opened_is}
use Rattle.readings.proofs.MarkTables.open.Goals as goal

pub overflow_cast-i : goal.overflow_cast-i
overflow_cast-i c = omega (arith, (first_some (λ i. bad ((marks_in c.args.self).mark i)) _ c.first_bad.ensures c.in-Some.is).1)

pub returns-in-Some : goal.returns-in-Some
returns-in-Some c = c.answered.ensures ∙ some_bad (marks_in c.args.self) c.first_bad.ensures c.in-Some.is _ c.args.given

pub with_marked-requires : goal.with_marked-requires
with_marked-requires c = (c.requires.1, facts_below (marks_in c.args.self) c.first_bad.ensures c.in_default.is)

pub without_missed-requires : goal.without_missed-requires
without_missed-requires c = (c.requires.1, facts_below (marks_in c.args.self) c.first_bad.ensures c.in_default.is)

pub returns : goal.returns
returns c =
    let m = marks_in c.args.self in
    let t = c.args.tenths in
    c.answered-2.ensures
    ∙ none_bad m c.first_bad.ensures c.in_default.is t.temperature t.humidity c.args.given _ c.without_missed.type_inv
    (opened_is t.temperature t.humidity m c.args.given c.with_marked.result c.without_missed.result c.with_marked.ensures c.without_missed.ensures)
