use mathlib.Core.Path.{ap, ◌∙◌}
use Prim.Native.Nat.{ℕ}
use native.Mathlib.Omega.{arith}
use Rattle.refusals.specs.Refusals.{refused}
use Rattle.tables.specs.Tables.{answer_of}
use Rattle.batches.proofs.Calls.{checks_28, all_known, checks_29, checks_30, checks_3, checks_pass, gives_nothing, gives_table}
use Rattle.batches.proofs.expand.Goals as goal

pub returns-in-Some : goal.returns-in-Some
returns-in-Some c =
    let a = c.args in
    let gs = a.groups.now in
    gives_nothing gs a.room c.nothing.result 28 _ c.nothing.ensures (c.refuse.ensures ∙ ap (λ (k : ℕ). answer_of (refused 28 k) 0 0) c.min-place.ensures)
    (checks_28 gs a.room c.first_unknown.ensures c.in-Some.is) (omega arith)

pub returns-then-groups-gt4 : goal.returns-then-groups-gt4
returns-then-groups-gt4 c =
    let a = c.args in
    let gs = a.groups.now in
    gives_nothing gs a.room c.nothing-then-groups-gt4.result 29 4 c.nothing-then-groups-gt4.ensures c.refuse-then-groups-gt4.ensures
    (checks_29 gs a.room c.first_unknown.ensures c.in_default.is c.if-groups-gt4.true) (omega arith)

pub job_count-jobs-requires : goal.job_count-jobs-requires
job_count-jobs-requires c = (all_known c.args.groups.now c.args.room c.first_unknown.ensures c.in_default.is, omega arith)

pub returns-then-jobs-gt24 : goal.returns-then-jobs-gt24
returns-then-jobs-gt24 c =
    let a = c.args in
    let gs = a.groups.now in
    gives_nothing gs a.room c.nothing-then-jobs-gt24.result 30 0 c.nothing-then-jobs-gt24.ensures c.refuse-then-jobs-gt24.ensures
    (checks_30 gs a.room c.first_unknown.ensures c.in_default.is (omega arith) c.job_count-jobs.ensures (omega arith)) (omega arith)

pub returns-then-room-jobs : goal.returns-then-room-jobs
returns-then-room-jobs c =
    let a = c.args in
    let gs = a.groups.now in
    gives_nothing gs a.room c.nothing-then-room-jobs.result 3 0 c.nothing-then-room-jobs.ensures c.refuse-then-room-jobs.ensures
    (checks_3 gs a.room c.first_unknown.ensures c.in_default.is (omega arith) c.job_count-jobs.ensures (omega arith) (omega arith)) (omega arith)

pub whole_table-requires : goal.whole_table-requires
whole_table-requires c =
    let a = c.args in
    (all_known a.groups.now a.room c.first_unknown.ensures c.in_default.is, omega arith, omega (arith, c.job_count-jobs.ensures))

pub returns : goal.returns
returns c =
    let a = c.args in
    gives_table a.groups.now a.room c.whole_table.result c.whole_table.ensures
    (checks_pass a.groups.now a.room c.first_unknown.ensures c.in_default.is (omega arith) c.job_count-jobs.ensures (omega arith) (omega arith))
