use lib.Dec.{ltb}
use Rattle.bytes_le.proofs.Laid.{length_laid, laid_then, tail_back}
use Rattle.jobfile.specs.Format.{records_of, trailer_of, save_of, length_after}
use Rattle.jobfile.proofs.Saves.{length_records, length_trailer}
use mathlib.Core.Path.{ap, ◌∙◌}
use native.Mathlib.Omega.{arith}
use Prim.Native.Nat.{◌+◌, ◌*◌, ◌≤◌}
use lib.ListN.{length}
use Rattle.facts.proofs.Bools.{test_yes, test_no, at_most}
use Rattle.refusals.proofs.Refused.{if_hit, if_pass}
use Rattle.tables.proofs.Calls.{call_checks_lem, accepts_by}
use Rattle.tables.specs.declared.Answer.{Answer}
use Rattle.jobfile.specs.Calls.{write_checks}
use Rattle.jobfile_write.proofs.Laws.{writes_no, writes_yes}
use Rattle.jobfile_write.proofs.write_file.Goals.{Else-a-ne0, Else-too_long}
use Rattle.jobfile_write.proofs.write_file.Goals as goal

pub returns-then-too_long : goal.returns-then-too_long
unfolding write_checks
returns-then-too_long c =
    let a = c.args in
    writes_no a.l a.q a.used a.buf.now c.refuse.ensures (if_hit _ 1 0 _ (test_yes c.too_long.ensures.says c.if-too_long.true)) (λ z. omega arith)

pub returns-then-a-ne0 : goal.returns-then-a-ne0
unfolding write_checks
returns-then-a-ne0 c =
    let a = c.args in
    writes_no a.l a.q a.used a.buf.now c.call_fault-a.ensures.says (if_pass _ 1 0 _ (test_no c.too_long.ensures.says c.if-too_long.false)) (λ z. c.if-a-ne0.true (ap (λ (x : Answer). x.number) c.call_fault-a.ensures.says ∙ z))

pub returns : goal.returns
unfolding write_checks save_of
returns c =
    let room : (length_after c.args.used c.args.q.jobs ≤ length c.args.buf.now) × (c.args.q.jobs ≤ 24) = let h = c.call_fault-a.ensures.order c.if-a-ne0.false in (at_most _ _ h.room, h.few) in
    let a = c.args in
    let xs = a.buf.now in
    let rs = records_of a.l a.q.jobs in
    let end = a.used + 32 * a.q.jobs in
    let r = room in
    let n = length_records a.l a.q.jobs in
    let b = tail_back rs a.used xs c.put_records.ensures (omega arith) in
    writes_yes a.l a.q a.used xs c.done.ensures
    (if_pass _ 1 0 _ (test_no c.too_long.ensures.says c.if-too_long.false)
    ∙ accepts_by (call_checks_lem (ltb (length xs) (length_after a.used a.q.jobs)) a.q.bound a.l a.q)
    c.call_fault-a.ensures.says c.if-a-ne0.false)
    (laid_then rs (trailer_of a.q) a.used xs end (omega arith) (omega arith) b
    (tail_back (trailer_of a.q) end _ c.put_trailer.ensures
    (omega (arith, length_trailer a.q, ap length b, length_laid rs a.used xs (omega arith)))))
