use mathlib.Core.Bool.{true, false, ◌||◌}
use mathlib.Core.Path.{◌≡◌, refl}
use native.Mathlib.Omega.{arith}
use Prim.Native.Nat.{ℕ}
use Rattle.std.proofs.Common.{rules, tests}
use Rattle.std.proofs.lemmas.Iterator.{first_from_find, YieldsList-from_range}
use Rattle.plantext.specs.Names.{misnamed, shares_name}
use Rattle.facts.proofs.Ranges.{first_found}
use Rattle.plantext.proofs.first_misnamed.Goals as goal

pub returns : goal.returns
returns c =
    let a = c.args in
    let f = λ (j : ℕ). misnamed a.names.now j || shares_name a.names.now a.n j in
    first_found f a.n c.find.result (first_from_find _ _ _ (λ x. f x ≡ true) (λ x. f x ≡ false) c.find.ensures.ran (YieldsList-from_range 0 a.n a.n refl (omega arith)) (λ x q k. search (rules, tests)) (λ x q k. search (rules, tests)))
