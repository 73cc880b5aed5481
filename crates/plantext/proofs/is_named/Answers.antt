use mathlib.Core.Path.{◌≡◌, refl}
use Prim.Native.Nat.{ℕ, ◌+◌, ◌*◌}
use Rattle.std.proofs.Common.{rules, tests}
use Rattle.std.proofs.lemmas.Iterator.{cases_from_all, YieldsList-from_range}
use Rattle.plantext.specs.Form.{letter_at}
use Rattle.plantext.specs.Names.{name_letter, is_named}
use Rattle.plantext.proofs.Laws.{same_is}
use Rattle.plantext.proofs.is_named.Goals as goal

pub returns : goal.returns
unfolding is_named
returns c =
    let a = c.args in
    let f = λ (i : ℕ). letter_at a.names.now (16 * a.j + i) in
    let g = name_letter a.text.now a.at a.size in
    same_is f g 16 c.all.result (cases_from_all _ _ _ (λ x. f x ≡ g x) (λ x. f x ≡ g x → ⊥) c.all.ensures.ran (YieldsList-from_range 0 16 16 refl refl) (λ x q k. search (rules, tests)) (λ x q k. search (rules, tests)))
