use mathlib.Core.Path.{◌≡◌}
use native.Mathlib.Omega.{arith}
use Rattle.facts.specs.Facts.{has}
use Rattle.rules.specs.Plans.{finish}
use Rattle.tables.specs.Tables.{problem}
use Rattle.entries.specs.Entries.{entry}
use Rattle.rules.proofs.Late.{greatest_none}
use Rattle.lateness.proofs.Laws.{last_next}
use Rattle.lateness.proofs.last_finish.Goals as goal

pub loop-j-init : goal.loop-j-init
loop-j-init c = (greatest_none (has c.args.q.set) (finish (problem c.args.l c.args.q) (entry c.args.z)))

pub loop-j-preserved : goal.loop-j-preserved
loop-j-preserved c =
    let a = c.args in
    let r = c.loop-j in
    (last_next (has a.q.set) (finish (problem a.l a.q) (entry a.z)) r.j r.last r.invariant c.has.ensures c.later-last.ensures)

pub returns : goal.returns
returns c =
    let e : c.loop-j.j ≡ c.args.q.jobs = omega arith in
    rw e at c.loop-j.invariant
