-- The answer behind the other checks, from what the code finds; and that two answers that keep the promise are equal. Assumes nothing.
use mathlib.Core.Path.{◌≡◌, refl, sym, ◌∙◌}
use Prim.Native.Nat.{ℕ, ◌^◌, ◌≤◌, ◌<◌}
use Rattle.std.specs.Prelude.{Option, Some, None}
use native.Mathlib.Nat.{lt_of_not-le}
use native.Mathlib.Decide.{dec_le}
use lib.Dec.{T, ltb, le→leb}
use lib.IntN.{ℤ, pos, neg_ℤ}
use lib.Signed.{lt_z}
use Rattle.facts.specs.Words.{Word}
use Rattle.facts.specs.Tests.{some_least}
use Rattle.facts.proofs.Bools.{or_r}
use Rattle.facts.proofs.Least.{lowest, first_none}
use Rattle.readings.specs.declared.BenchReading.{BenchReading}
use Rattle.readings.specs.declared.Mark.{Mark}
use Rattle.readings.specs.declared.Opening.{Opening}
use Rattle.readings.specs.Marks.{Marks, bad}
use Rattle.readings.specs.Opening.{opened, word_of, mark_checks, opening_answer, Opens}
use Rattle.readings.proofs.Words.{word_is}
use Rattle.refusals.specs.Refusals.{accepted}
use Rattle.refusals.proofs.Refused.{at_some, at_none}

-- a mark in range has a fact below 64
fact_below : (k : Mark) → (T (bad k) → ⊥) → k.fact < 64
fact_below k n = go (dec_le 64 k.fact)
  where
    go : Dec (64 ≤ k.fact) → k.fact < 64
    go (yes l) = absurd (n (or_r (ltb 1 k.channel) _ (or_r (lt_z k.level (neg_ℤ (pos 1000))) _ (or_r (lt_z (pos 1000) k.level) _ (le→leb 64 k.fact l)))))
    go (no l) = lt_of_not-le l

-- r is the lowest mark out of range, if there is one
module _ (m : Marks) {r : Option ℕ} (found : r ≡ some_least (λ i. bad (m.mark i)) m.count) where
  pub some_bad : {i : ℕ} → r ≡ Some i → (opened given : ℕ) → record { number = 18; second = 0; place = i; facts = given } ≡ opening_answer (mark_checks m accepted) opened given
  unfolding mark_checks
  some_bad h opened given = rw (at_some (λ i. bad (m.mark i)) m.count 18 accepted found h) refl

  pub facts_below : r ≡ None → (i : ℕ) → i < m.count → (m.mark i).fact < 64
  facts_below h i l = fact_below (m.mark i) ((lowest (λ i. bad (m.mark i)) m.count).first i (rw (sym (first_none (λ i. bad (m.mark i)) m.count found h)) l))

  pub none_bad : r ≡ None → (temperature humidity : ℤ) (given w : ℕ) → w < 2 ^ 64 → Word (opened temperature humidity m given) w
      → record { number = 0; second = 0; place = 0; facts = w } ≡ opening_answer (mark_checks m accepted) (word_of (opened temperature humidity m given) 64) given
  unfolding mark_checks
  none_bad h temperature humidity given w l x = rw (at_none (λ i. bad (m.mark i)) m.count 18 accepted found h, sym (word_is 64 (opened temperature humidity m given) w l x)) refl

-- two answers that keep the promise at the same input are equal, refusals included
pub opening_only : (r : BenchReading) (m : Marks) (given : ℕ) (a b : Opening) → Opens r m given a → Opens r m given b → a ≡ b
opening_only r m given a b x y = x ∙ sym y
