use mathlib.Core.Path.{◌≡◌, refl}
use native.Mathlib.Omega.{arith}
use Prim.Native.Nat.{ℕ, ◌+◌}
use lib.ListN.{length}
use Rattle.std.proofs.Common.{rules, tests}
use Rattle.std.proofs.lemmas.Iterator.{cases_from_all, YieldsList-from_range}
use Rattle.plantext.specs.Form.{letter_at, word_stands}
use Rattle.plantext.proofs.Laws.{same_is}
use Rattle.plantext.proofs.word_at.Goals as goal

pub returns : goal.returns
unfolding word_stands
returns c =
    let a = c.args in
    let n = length a.word.now in
    let f = λ (i : ℕ). letter_at a.text.now (a.at + i) in
    let g = letter_at a.word.now in
    same_is f g n c.all.result (cases_from_all _ _ _ (λ x. f x ≡ g x) (λ x. f x ≡ g x → ⊥) c.all.ensures.ran (YieldsList-from_range 0 n n refl (omega arith)) (λ x q k. search (rules, tests)) (λ x q k. search (rules, tests)))
