use mathlib.Core.Path.{◌≡◌, refl, sym, ap, ◌∙◌}
use native.Mathlib.Omega.{arith}
use Prim.Native.Nat.{ℕ, ◌*◌}
use native.Mathlib.Numerals.{add-one}
use Rattle.tables.specs.Tables.{job_at}
use Rattle.bytes_le.specs.Little.{at_front}
use Rattle.bytes_le.proofs.Laid.{over_then, tail_back}
use Rattle.jobfile.specs.Format.{record_of, records_of}
use Rattle.jobfile.proofs.Saves.{length_record, length_records}
use Rattle.jobfile_write.proofs.put_records.Goals as goal

pub loop-i-init : goal.loop-i-init
unfolding records_of
loop-i-init c = refl

pub loop-i-preserved : goal.loop-i-preserved
unfolding records_of
loop-i-preserved c =
    let a = c.args in
    let t = c.loop-i in
    let xs = a.out.now in
    let r = record_of (job_at a.l t.i) in
    over_then (records_of a.l t.i) r xs (32 * t.i) (sym (length_records a.l t.i)) t.invariant
    (tail_back r (32 * t.i) t.out c.put_record.ensures (omega (arith, length_record (job_at a.l t.i))))
    ∙ ap (λ (k : ℕ). at_front (records_of a.l k) xs) (sym (add-one t.i))

pub returns : goal.returns
returns c =
    let a = c.args in
    let e : c.loop-i.i ≡ a.n = omega arith in
    c.loop-i.invariant ∙ ap (λ (k : ℕ). at_front (records_of a.l k) a.out.now) e
