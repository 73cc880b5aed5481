use mathlib.Core.Bool.{true, false, not, ◌&&◌}
use mathlib.Core.Path.{◌≡◌, refl}
use native.Mathlib.Omega.{arith}
use Prim.Native.Nat.{ℕ, ◌*◌}
use lib.Dec.{eqb}
use Rattle.std.proofs.Common.{rules, tests}
use Rattle.std.proofs.lemmas.Iterator.{cases_from_any, YieldsList-from_range}
use Rattle.plantext.specs.Names.{is_named, shares_name}
use Rattle.facts.proofs.Ranges.{any_is}
use Rattle.plantext.proofs.shares_name.Goals as goal

pub returns : goal.returns
unfolding shares_name
returns c =
    let a = c.args in
    let f = λ (i : ℕ). not (eqb i a.j) && is_named a.names.now i a.names.now (16 * a.j) 16 in
    any_is f a.n c.any.result (cases_from_any _ _ _ (λ x. f x ≡ true) (λ x. f x ≡ false) c.any.ensures.ran (YieldsList-from_range 0 a.n a.n refl (omega arith)) (λ x q k. search (rules, tests)) (λ x q k. search (rules, tests)))
