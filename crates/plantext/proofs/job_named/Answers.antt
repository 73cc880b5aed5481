use mathlib.Core.Bool.{true, false}
use mathlib.Core.Path.{◌≡◌, refl, ap₂, ◌∙◌}
use native.Mathlib.Omega.{arith}
use Prim.Native.Nat.{ℕ}
use Rattle.std.proofs.Common.{rules, tests}
use Rattle.std.proofs.lemmas.Iterator.{first_from_find, YieldsList-from_range}
use Rattle.facts.specs.Tests.{some_least}
use Rattle.plantext.specs.Names.{is_named}
use Rattle.facts.proofs.Ranges.{first_found}
use Rattle.plantext.proofs.job_named.Goals as goal

pub returns : goal.returns
returns c =
    let a = c.args in
    let f = λ (j : ℕ). is_named a.names.now j a.text.now c.name_at-name.result c.name_length-size.result in
    first_found f a.n c.find.result (first_from_find _ _ _ (λ x. f x ≡ true) (λ x. f x ≡ false) c.find.ensures.ran (YieldsList-from_range 0 a.n a.n refl (omega arith)) (λ x q k. search (rules, tests)) (λ x q k. search (rules, tests)))
    ∙ ap₂ (λ (p k : ℕ). some_least (λ j. is_named a.names.now j a.text.now p k) a.n) c.name_at-name.ensures.0 c.name_length-size.ensures.0
