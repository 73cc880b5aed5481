use mathlib.Core.Path.{ap, sym, ◌∙◌}
use mathlib.Core.Bool.{Bool, not, ◌&&◌}
use borrow.Author.Tests.{eq-eqb, ne_eqb}
use Rattle.facts.specs.Facts.{has}
use Rattle.following.proofs.Laws.{come_start, come_other}
use Rattle.following.proofs.may_come.Goals as goal

pub returns-then-w-eq0 : goal.returns-then-w-eq0
returns-then-w-eq0 c = let x = c.args in come_start x.free x.w.started x.w.finished x.w.event x.w.job c.if-w-eq0.true c.only_in.ensures

pub returns-then-w-eq1 : goal.returns-then-w-eq1
returns-then-w-eq1 c =
    let x = c.args in
    come_other x.free x.w.started x.w.finished x.w.event x.w.job c.if-w-eq0.false
    (c.only_in-then-w-eq1.ensures ∙ sym (ap (λ (b : Bool). b && (has x.w.started x.w.job && not (has x.w.finished x.w.job))) (eq-eqb x.w.event 1 c.if-w-eq1.true)))

pub returns : goal.returns
returns c =
    let x = c.args in
    come_other x.free x.w.started x.w.finished x.w.event x.w.job c.if-w-eq0.false
    (sym (ap (λ (b : Bool). b && (has x.w.started x.w.job && not (has x.w.finished x.w.job))) (ne_eqb x.w.event 1 c.if-w-eq1.false)))
