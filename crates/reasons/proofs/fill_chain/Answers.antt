use mathlib.Core.Path.{◌≡◌, refl, sym, ap, ◌∙◌}
use mathlib.Core.List.{List}
use Prim.Native.Nat.{ℕ}
use native.Mathlib.Omega.{arith}
use lib.ListN.{length, get_or, set, length-set}
use Rattle.tables.specs.Tables.{filled}
use Rattle.tables.proofs.Lent.{filled_more}
use Rattle.reasons.specs.Steps.{backwards}
use Rattle.reasons.proofs.Laws.{back_length, back_at}
use Rattle.reasons.proofs.fill_chain.Goals as goal

pub loop-i-init : goal.loop-i-init
unfolding filled
loop-i-init c = (omega arith, refl, refl)

pub overflow_sub-out-in-loop-i : goal.overflow_sub-out-in-loop-i
overflow_sub-out-in-loop-i c = omega arith

pub bounds-c-n : goal.bounds-c-n
bounds-c-n c = omega (arith, c.well_formed.0.1, c.requires.0)

pub bounds-out-i : goal.bounds-out-i
bounds-out-i c = omega (arith, c.loop-i.invariant.2, c.requires.1)

pub loop-i-preserved : goal.loop-i-preserved
loop-i-preserved c =
    let a = c.args in
    let i = c.loop-i.i in
    let f : ℕ → ℕ = λ k. get_or (backwards a.c.jobs a.c.count) k 0 in
    (omega arith, ap (λ (x : ℕ). set c.loop-i.out i x) (sym (back_at a.c.jobs a.c.count i c.loop-i-test.true)) ∙ ap (λ (ys : List ℕ). set ys i (f i)) c.loop-i.invariant.1 ∙ filled_more f i a.out.now, simp length-set c.loop-i.invariant.2)

pub shape_of-out : goal.shape_of-out
shape_of-out c = c.loop-i.invariant.2

pub returns : goal.returns
returns c =
    let a = c.args in
    let e : c.loop-i.i ≡ length (backwards a.c.jobs a.c.count) = omega (arith, back_length a.c.jobs a.c.count) in
    rw (← e) c.loop-i.invariant.1
