use native.Mathlib.Omega.{arith}
use mathlib.Core.Path.{sym, ap, ◌∙◌}
use lib.Dec.{lt→ltb, ltb→lt}
use lib.ListN.{length}
use Rattle.refusals.specs.Refusals.{Verdict}
use Rattle.refusals.proofs.Refused.{if_hit, if_pass}
use Rattle.jobfile.specs.Calls.{read_checks, handed_from}
use Rattle.jobfile_read.proofs.Laws.{gives_no}
use Rattle.jobfile_read.proofs.read_file.Goals as goal

pub returns-then-file-gt65536 : goal.returns-then-file-gt65536
unfolding read_checks
returns-then-file-gt65536 c = gives_no _ _ 1 c.nothing.ensures c.refuse.ensures (if_hit _ 1 0 _ (lt→ltb 65536 _ c.if-file-gt65536.true)) (omega arith)

pub returns-then-file-lt24 : goal.returns-then-file-lt24
unfolding read_checks
returns-then-file-lt24 c = gives_no _ _ 2 c.nothing-then-file-lt24.ensures c.refuse-then-file-lt24.ensures (if_pass _ 1 0 _ (λ h. omega (arith, ltb→lt 65536 (length c.args.file.now) h)) ∙ if_hit _ 2 0 _ (lt→ltb _ 24 c.if-file-lt24.true)) (omega arith)

pub returns : goal.returns
unfolding read_checks
returns c =
    let a = c.args in
    c.read_save.ensures ∙ ap (λ (v : Verdict). handed_from v a.file.now a.room) (sym (if_pass _ 1 0 _ (λ h. omega (arith, ltb→lt 65536 (length a.file.now) h)) ∙ if_pass _ 2 0 _ (λ h. omega (arith, ltb→lt (length a.file.now) 24 h))))
