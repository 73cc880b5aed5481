-- The word of a list has exactly the facts of the list.
-- Assumes nothing.
use mathlib.Core.Path.{◌≡◌, sym, subst}
use mathlib.Core.Logic.{◌⊎◌, inl, inr, ◌↔◌}
use mathlib.Core.Bool.{◌||◌}
use mathlib.Core.List.Memᴰ
use mathlib.Core.List.{List, [], ◌∷◌, Memᴰ}
use Prim.Native.Nat.{ℕ}
use lib.Dec.{T, eqb, eqb→eq}
use Rattle.facts.specs.Facts.{has}
use Rattle.facts.proofs.Bools.{or_cases, or_l, or_r, eqb_of}
use Rattle.facts.proofs.Sets.{has_zero, word_with}
use Rattle.cases.specs.Jobs.{facts}

pub facts_are : (l : List ℕ) (p : ℕ) → T (has (facts l) p) ↔ Memᴰ p l
unfolding facts
facts_are [] p = (λ h. absurd (has_zero p h), λ m. absurd (Memᴰ.not-nil m))
facts_are (q ∷ l) p = go (facts_are l p)
  where
    go : T (has (facts l) p) ↔ Memᴰ p l → T (has (facts (q ∷ l)) p) ↔ Memᴰ p (q ∷ l)
    go r = (λ h. there (or_cases (has (facts l) p) (eqb p q) (subst T (word_with (facts l) q p) h)), λ m. subst T (sym (word_with (facts l) q p)) (back (Memᴰ.cases_cons m)))
      where
        there : T (has (facts l) p) ⊎ T (eqb p q) → Memᴰ p (q ∷ l)
        there (inl h) = Memᴰ.tail (r.0 h)
        there (inr h) = Memᴰ.head (eqb→eq p q h)

        back : (p ≡ q) ⊎ Memᴰ p l → T (has (facts l) p || eqb p q)
        back (inl e) = or_r (has (facts l) p) _ (eqb_of e)
        back (inr m) = or_l (has (facts l) p) _ (r.1 m)
