use mathlib.Core.Path.{◌∙◌}
use native.Mathlib.Omega.{arith}
use Rattle.facts.proofs.Bools.{or_first, or_next}
use Rattle.bindings.proofs.Bytes.{over_gap, binds_out, binds_no, binds_yes}
use Rattle.bindings.proofs.binds.Goals as goal

pub returns-then-s-b : goal.returns-then-s-b
returns-then-s-b c = binds_out c.args.l c.args.q c.args.s.now c.args.a c.args.b c.if-s-b.true

pub returns-then-interferes : goal.returns-then-interferes
returns-then-interferes c =
    let a = c.args in
    binds_yes a.l a.q a.s.now a.a a.b c.if-s-b.false (over_gap a.l a.q a.s.now a.a a.b c.gap.ensures (rw c.from.ensures at c.over_by.ensures)) c.if-over_by.true (or_first _ (c.interferes.ensures a.q) c.if-interferes.true)

pub returns-else-interferes : goal.returns-else-interferes
returns-else-interferes c =
    let a = c.args in
    binds_yes a.l a.q a.s.now a.a a.b c.if-s-b.false (over_gap a.l a.q a.s.now a.a a.b c.gap.ensures (rw c.from.ensures at c.over_by.ensures)) c.if-over_by.true (or_next (c.interferes.ensures a.q) c.if-interferes.false (c.has.ensures ∙ c.requires.3 a.b a.a (omega arith) (omega arith)))

pub returns : goal.returns
returns c =
    let a = c.args in
    binds_no a.l a.q a.s.now a.a a.b (over_gap a.l a.q a.s.now a.a a.b c.gap.ensures (rw c.from.ensures at c.over_by.ensures)) c.if-over_by.false
