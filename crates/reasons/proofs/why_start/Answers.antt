use mathlib.Core.Path.{sym, ap, ◌∙◌}
use Prim.Native.Nat.{ℕ}
use native.Mathlib.Omega.{arith}
use borrow.Author.Tests.{not-true, not-false}
use Rattle.facts.proofs.Bools.{test_yes, test_no}
use Rattle.refusals.specs.Refusals.{accepted, refused}
use Rattle.tables.specs.Tables.{answer_of}
use Rattle.entries.specs.Entries.{entry}
use Rattle.reasons.specs.Steps.{backwards}
use Rattle.reasons.proofs.Laws.{back_length, back_fits}
use Rattle.reasons.proofs.Calls.{not_settled, explainable, lent, not_in_set, chain_given}
use Rattle.reasons.proofs.why_start.Goals as goal

pub returns-in-Err : goal.returns-in-Err
returns-in-Err c = let a = c.args in not_settled a.l a.q a.pairs.now a.out.now c.in-Err.answer c.in-Err.ensures

pub returns-then-not-in_set : goal.returns-then-not-in_set
returns-then-not-in_set c =
    let a = c.args in
    not_in_set a.l a.q a.pairs.now a.out.now c.in-Ok.starts c.in-Ok.ensures (test_no c.in_set.ensures (not-true _ c.if-not-in_set.true-raw)) (c.refuse.ensures ∙ ap (λ (x : ℕ). answer_of (refused 27 x) 0 0) c.from.ensures)

pub go_back-c-requires : goal.go_back-c-requires
go_back-c-requires c =
    let a = c.args in
    rw c.from-2.ensures (explainable a.l a.q a.pairs.now a.out.now c.in-Ok.starts c.in-Ok.ensures (test_yes c.in_set.ensures (not-false _ c.if-not-in_set.false-raw)))

pub fill_chain-requires : goal.fill_chain-requires
fill_chain-requires c =
    let a = c.args in
    let k = explainable a.l a.q a.pairs.now a.out.now c.in-Ok.starts c.in-Ok.ensures (test_yes c.in_set.ensures (not-false _ c.if-not-in_set.false-raw)) in
    let few = back_fits a.l a.q.ask a.pairs.now (entry c.in-Ok.starts) a.q.job k c.go_back-c.result.jobs c.go_back-c.result.count (rw c.from-2.ensures at c.go_back-c.ensures) in
    (omega (arith, few, k.ready.few), omega (arith, few, lent a.l a.q a.pairs.now a.out.now c.in-Ok.starts c.in-Ok.ensures))

pub overflow_cast-c : goal.overflow_cast-c
overflow_cast-c c =
    let a = c.args in
    let k = explainable a.l a.q a.pairs.now a.out.now c.in-Ok.starts c.in-Ok.ensures (test_yes c.in_set.ensures (not-false _ c.if-not-in_set.false-raw)) in
    omega (arith, k.ready.few, back_fits a.l a.q.ask a.pairs.now (entry c.in-Ok.starts) a.q.job k c.go_back-c.result.jobs c.go_back-c.result.count (rw c.from-2.ensures at c.go_back-c.ensures))

pub returns : goal.returns
returns c =
    let a = c.args in
    let b = c.go_back-c.result in
    chain_given a.l a.q a.pairs.now a.out.now c.in-Ok.starts c.in-Ok.ensures (backwards b.jobs b.count) (test_yes c.in_set.ensures (not-false _ c.if-not-in_set.false-raw))
    (rw c.from-2.ensures at c.go_back-c.ensures) (c.done.ensures ∙ ap (λ (n : ℕ). answer_of accepted n 0) (sym (back_length b.jobs b.count))) c.fill_chain.ensures
