use mathlib.Core.Bool.{◌||◌}
use mathlib.Core.Path.{refl, ◌∙◌}
use native.Mathlib.Omega.{arith}
use Prim.Native.Nat.{ℕ}
use Rattle.facts.proofs.Least.{first_some, first_none}
use Rattle.refusals.proofs.Refused.{at_hit, at_miss}
use Rattle.tables.proofs.Laws.{said}
use Rattle.plantext.specs.Names.{misnamed, shares_name, names_check}
use Rattle.plantext.proofs.names_fault.Goals as goal

pub overflow_cast-j : goal.overflow_cast-j
overflow_cast-j c =
    let a = c.args in
    let h = first_some (λ j. misnamed a.names.now j || shares_name a.names.now a.n j) a.n c.in-Some.ensures refl in
    omega arith

pub returns-in-Some : goal.returns-in-Some
unfolding names_check
returns-in-Some c =
    let a = c.args in
    let f = λ (j : ℕ). misnamed a.names.now j || shares_name a.names.now a.n j in
    let h = first_some f a.n c.in-Some.ensures refl in
    c.refuse.ensures ∙ said 0 0 (at_hit f a.n 33 _ h.0 h.1)

pub returns-in-None : goal.returns-in-None
unfolding names_check
returns-in-None c =
    let a = c.args in
    let f = λ (j : ℕ). misnamed a.names.now j || shares_name a.names.now a.n j in
    let h = first_none f a.n c.in-None.ensures refl in
    c.done.ensures ∙ said 0 0 (at_miss f a.n 33 _ h (omega arith))
