use mathlib.Core.Path.{ap, ◌∙◌, ◌≡◌}
use native.Mathlib.Omega.{arith}
use mathlib.Core.Bool.{false}
use Prim.Native.Nat.{ℕ}
use Rattle.facts.proofs.Bools.{test_yes, test_no}
use Rattle.refusals.specs.Refusals.{accepted}
use Rattle.refusals.proofs.Refused.{if_hit, if_pass}
use Rattle.tables.specs.Tables.{answer_of, call_checks}
use Rattle.tables.specs.declared.Loaded.{Loaded}
use Rattle.tables.proofs.Laws.{said}
use Rattle.jobfile.specs.Format.{first_of, table_in}
use Rattle.jobfile.specs.Calls.{record_checks, whole}
use Rattle.jobfile_read.proofs.Laws.{gives_stop, gives_no, gives}
use Rattle.jobfile_read.proofs.read_records.Goals.{After-call_fault-a, After-first_records-l}
use Rattle.jobfile_read.proofs.read_records.Goals as goal

pub returns-then-any_spoilt : goal.returns-then-any_spoilt
returns-then-any_spoilt c = gives_no c.args.q _ 2 c.nothing.ensures c.refuse.ensures (if_hit _ 2 0 _ (test_yes c.any_spoilt.ensures c.if-any_spoilt.true)) (omega arith)

pub returns-then-a-ne0 : goal.returns-then-a-ne0
returns-then-a-ne0 c =
    let table_is : c.first_records-l.result ≡ table_in c.args.records.now c.args.q.jobs c.args.room = c.first_records-l.ensures ∙ ap (λ (k : ℕ). first_of c.args.records.now k c.args.room) c.held.ensures in
    let says : c.call_fault-a.result ≡ answer_of (record_checks c.args.records.now c.args.q c.args.room) 0 0 = c.call_fault-a.ensures.says ∙ ap (λ (t : Loaded). answer_of (call_checks false c.args.q.bound t c.args.q accepted) 0 0) table_is ∙ said 0 0 (if_pass _ 2 0 _ (test_no c.any_spoilt.ensures c.if-any_spoilt.false)) in
    let a = c.args in
    gives_stop a.q _ c.nothing-then-a-ne0.ensures says c.if-a-ne0.true

pub returns : goal.returns
returns c =
    let table_is : c.first_records-l.result ≡ table_in c.args.records.now c.args.q.jobs c.args.room = c.first_records-l.ensures ∙ ap (λ (k : ℕ). first_of c.args.records.now k c.args.room) c.held.ensures in
    let says : c.call_fault-a.result ≡ answer_of (record_checks c.args.records.now c.args.q c.args.room) 0 0 = c.call_fault-a.ensures.says ∙ ap (λ (t : Loaded). answer_of (call_checks false c.args.q.bound t c.args.q accepted) 0 0) table_is ∙ said 0 0 (if_pass _ 2 0 _ (test_no c.any_spoilt.ensures c.if-any_spoilt.false)) in
    let a = c.args in
    ap (λ (t : Loaded). whole c.call_fault-a.result a.q t) table_is
    ∙ gives a.q _ says c.if-a-ne0.false
