use mathlib.Core.Path.{◌≡◌, refl, sym, ap, ◌∙◌}
use native.Mathlib.Omega.{arith}
use Prim.Native.Nat.{ℕ, ◌≤◌}
use lib.Dec.{lt→ltb, ltb→lt}
use lib.ListN.{length, take}
use lib.Seq.{length-take-le}
use Rattle.refusals.specs.Refusals.{accepted}
use Rattle.refusals.proofs.Refused.{if_hit, if_pass}
use Rattle.tables.specs.Tables.{answer_of}
use Rattle.tables.proofs.Laws.{numbered}
use Rattle.jobfile.specs.Format.{save_length}
use Rattle.jobfile.specs.Tidy.{pulled, tidy_checks}
use Rattle.jobfile.proofs.Tidy.{tidy_accepts, tidy_fine}
use Rattle.jobfile_tidy.proofs.Laws.{read_says, tidies_no, tidies_yes}
use Rattle.jobfile_tidy.proofs.tidy.Goals.{After-read_file, Else-a-ne0}
use Rattle.jobfile_tidy.proofs.tidy.Goals as goal

-- the reader says what the checks say
says : (c : After-read_file)
    → c.read_file.result.answer ≡ answer_of (tidy_checks c.args.used c.args.buf.now) 0 0
says c = let a = c.args in read_says a.used a.buf.now (omega arith) (omega arith) c.read_file.ensures

-- where it accepts, so do they
passes : (c : Else-a-ne0) → tidy_checks c.args.used c.args.buf.now ≡ accepted
passes c = let a = c.args in tidy_accepts a.used a.buf.now (sym (numbered 0 0 (says c.before.before.before)) ∙ c.if-a-ne0.false)

-- and the save is no longer than the bytes in use
within : (c : Else-a-ne0) → save_length (take c.args.used c.args.buf.now) ≤ c.args.used
within c =
    let a = c.args in
    let f = tidy_fine a.used a.buf.now (passes c) in
    omega (arith, f.near, f.long, length-take-le a.used a.buf.now (omega arith))

pub returns-then-used-gt65536 : goal.returns-then-used-gt65536
unfolding tidy_checks
returns-then-used-gt65536 c =
    let a = c.args in
    tidies_no a.used a.buf.now c.refuse.ensures (if_hit _ 1 0 _ (lt→ltb 65536 a.used c.if-used-gt65536.true)) (λ z. omega arith)

pub returns-then-buf-used : goal.returns-then-buf-used
unfolding tidy_checks
returns-then-buf-used c =
    let a = c.args in
    tidies_no a.used a.buf.now c.refuse-then-buf-used.ensures
    (if_pass _ 1 0 _ (λ h. omega (arith, ltb→lt 65536 a.used h)) ∙ if_hit _ 3 0 _ (lt→ltb (length a.buf.now) a.used c.if-buf-used.true)) (λ z. omega arith)

pub slice_bounds-read_file-end-2 : goal.slice_bounds-read_file-end-2
slice_bounds-read_file-end-2 c = sym (length-take-le _ _ (omega arith))

pub returns-then-a-ne0 : goal.returns-then-a-ne0
returns-then-a-ne0 c =
    let a = c.args in
    let e = says c.before.before.before in tidies_no a.used a.buf.now e refl (λ z. c.if-a-ne0.true (numbered 0 0 e ∙ z))

pub slice_bounds-save_length-end-2 : goal.slice_bounds-save_length-end-2
slice_bounds-save_length-end-2 c = sym (length-take-le _ _ (omega arith))

pub save_length-long-requires : goal.save_length-long-requires
save_length-long-requires c =
    let a = c.args in
    let f = tidy_fine a.used a.buf.now (passes c) in (f.long, f.near)

pub pull-requires : goal.pull-requires
pull-requires c = (omega (arith, c.save_length-long.ensures, within c.before.before), omega arith)

pub overflow_cast-long : goal.overflow_cast-long
overflow_cast-long c = omega (arith, c.save_length-long.ensures, within c.before.before.before.before.before.before)

pub returns : goal.returns
returns c =
    let a = c.args in
    let n : c.save_length-long.result ≡ save_length (take a.used a.buf.now) = c.save_length-long.ensures in
    tidies_yes a.used a.buf.now (c.done.ensures ∙ ap (λ (k : ℕ). answer_of accepted k 0) n) (passes c.before.before.before.before.before.before.before)
    (c.pull.ensures.bytes ∙ ap (λ (k : ℕ). pulled k a.used a.buf.now) n)
