use mathlib.Core.Path.{refl, sym, ap, ◌∙◌}
use Prim.Native.Nat.{ℕ}
use native.Mathlib.Omega.{arith}
use Rattle.refusals.specs.Refusals.{accepted}
use Rattle.tables.specs.Tables.{problem, answer_of}
use Rattle.tables.proofs.Laws.{said}
use Rattle.facts.proofs.Bools.{test_yes, test_no}
use Rattle.plantext.proofs.Laws.{named_some, named_none}
use Rattle.plantext.proofs.Lines.{bad_form, bad_name, bad_twice, bad_long, no_fault}
use Rattle.plantext_read.proofs.Laws.{formed, named, in_said, out_said, long_said}
use Rattle.plantext_read.proofs.line_fault.Goals.{In-Some}
use Rattle.plantext_read.proofs.line_fault.Goals as goal

pub returns-then-formless : goal.returns-then-formless
returns-then-formless c = let a = c.args in let P = problem a.l a.q in c.refuse.ensures ∙ said _ 0 (bad_form P a.names.now a.text.now a.k accepted (test_yes (formed P a.names.now a.text.now a.k c.requires.2.place c.formless.ensures) c.if-formless.true))

pub returns-in-None : goal.returns-in-None
returns-in-None c =
    let a = c.args in
    let P = problem a.l a.q in
    let n = named_none a.names.now a.q.jobs a.text.now a.at c.in-None.ensures refl in
    c.refuse-in-None.ensures ∙ said _ 0 (bad_name P a.names.now a.text.now a.k accepted (test_no (formed P a.names.now a.text.now a.k c.requires.2.place c.formless.ensures) c.if-formless.false) (sym (named P a.names.now a.text.now a.k c.requires.2.place n)))

-- the job found is the line's, and below the job count
pub offset_bounds-starts-j : goal.offset_bounds-starts-j
offset_bounds-starts-j c = let a = c.args in let h = named_some a.names.now a.q.jobs a.text.now a.at c.in-Some.ensures refl in omega arith

pub bounds-starts-j : goal.bounds-starts-j
bounds-starts-j c = let a = c.args in let h = named_some a.names.now a.q.jobs a.text.now a.at c.in-Some.ensures refl in omega arith

pub returns-then-starts-j : goal.returns-then-starts-j
returns-then-starts-j c =
    let a = c.args in
    let P = problem a.l a.q in
    let h = named_some a.names.now a.q.jobs a.text.now a.at c.in-Some.ensures refl in
    let j = named P a.names.now a.text.now a.k c.requires.2.place h.0 in
    c.refuse-then-starts-j.ensures ∙ said _ 0 (bad_twice P a.names.now a.text.now a.k accepted (test_no (formed P a.names.now a.text.now a.k c.requires.2.place c.formless.ensures) c.if-formless.false) (λ e. omega arith) (in_said P a.names.now a.text.now a.k c.requires.2.place a.starts _ j h.1 c.requires.2.said c.if-starts-j.true))

pub returns-then-value_at-from : goal.returns-then-value_at-from
returns-then-value_at-from c =
    let a = c.args in
    let P = problem a.l a.q in
    let h = named_some a.names.now a.q.jobs a.text.now a.at c.in-Some.ensures refl in
    let j = named P a.names.now a.text.now a.k c.requires.2.place h.0 in
    c.refuse-then-value_at-from.ensures ∙ said _ 0 (bad_long P a.names.now a.text.now a.k accepted (test_no (formed P a.names.now a.text.now a.k c.requires.2.place c.formless.ensures) c.if-formless.false) (λ e. omega arith) (out_said P a.names.now a.text.now a.k c.requires.2.place a.starts _ j h.1 c.requires.2.said c.if-starts-j.false) (λ e. c.if-value_at-from.true (long_said P a.names.now a.text.now a.k c.requires.2.place c.duration_at.ensures.0 c.value_at.ensures ∙ e ∙ ap P.duration (sym j) ∙ sym c.from.ensures)))

pub returns : goal.returns
returns c =
    let a = c.args in
    let P = problem a.l a.q in
    let h = named_some a.names.now a.q.jobs a.text.now a.at c.in-Some.ensures refl in
    let j = named P a.names.now a.text.now a.k c.requires.2.place h.0 in
    c.done.ensures ∙ ap (λ (i : ℕ). answer_of accepted i 0) j ∙ said _ 0 (no_fault P a.names.now a.text.now a.k accepted (test_no (formed P a.names.now a.text.now a.k c.requires.2.place c.formless.ensures) c.if-formless.false) (λ e. omega arith) (out_said P a.names.now a.text.now a.k c.requires.2.place a.starts _ j h.1 c.requires.2.said c.if-starts-j.false) (sym (long_said P a.names.now a.text.now a.k c.requires.2.place c.duration_at.ensures.0 c.value_at.ensures) ∙ c.if-value_at-from.false ∙ c.from.ensures ∙ ap P.duration j))
