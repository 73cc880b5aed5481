-- Words of jobs: a bit more, what one word has that another lacks, the only bit.
-- Assumes nothing.
use mathlib.Core.Path.{◌≡◌, sym, subst}
use mathlib.Core.Logic.{◌⊎◌, inl, inr, ⊎_elim}
use Prim.Native.Nat.{ℕ, ◌≤◌, ◌<◌, ◌^◌}
use native.Mathlib.Omega.{arith}
use lib.Bits.{bit_or}
use lib.Dec.{T, eqb, eqb→eq, eqb_refl, T_not, not_T}
use Rattle.facts.specs.Facts.{has}
use Rattle.facts.specs.Words.{Word}
use Rattle.facts.proofs.Bools.{or_l, or_r, or_cases, certain, and_of, and_l, and_r}
use Rattle.facts.proofs.Sets.{word_with, has_or, has_zero}
use Rattle.jobs.specs.Jobs.{Noted, FirstLack, OnlyJob}
use mathlib.Core.Bool.{not, ◌&&◌}
use Rattle.facts.specs.Least.{least}
use Rattle.facts.specs.Walks.{Walk}
use Rattle.facts.proofs.Least.{lowest}

pub bits_keep : (w v p : ℕ) → T (has w p) → T (has (bit_or w v) p)
bits_keep w v p h = subst T (sym (has_or w v p)) (or_l (has w p) (has v p) h)

pub bits_cases : (w v p : ℕ) → T (has (bit_or w v) p) → T (has w p) ⊎ T (has v p)
bits_cases w v p h = or_cases (has w p) (has v p) (subst T (has_or w v p) h)

pub bit_new : (w q : ℕ) → T (has (bit_or w (2 ^ q)) q)
bit_new w q = subst T (sym (word_with w q q)) (or_r (has w q) (eqb q q) (eqb_refl q))

pub bit_cases : (w q p : ℕ) → T (has (bit_or w (2 ^ q)) p) → T (has w p) ⊎ (p ≡ q)
bit_cases w q p h = ⊎_elim inl (λ e. inr (eqb→eq p q e)) (or_cases (has w p) (eqb p q) (subst T (word_with w q p) h))

pub noted_not : {A : Type 0} {j w : ℕ} → (j < 24 → A → ⊥) → Noted A j w w
noted_not n = record { keeps = λ i h. h; of = λ i h. inl h; at = λ l a. absurd (n l a) }

pub noted_with : {A : Type 0} {j w : ℕ} → j < 24 → A → Noted A j w (bit_or w (2 ^ j))
noted_with {A} {j} {w} l a = record { keeps = bits_keep w (2 ^ j); of = λ i h. ⊎_elim inl (λ e. inr (e, l, a)) (bit_cases w j i h); at = λ l a. bit_new w j }

-- what is left of a word without another
module _ (w v more : ℕ) (k : Word (λ i. has w i && not (has v i)) more) where
  pub left_over : (b : ℕ) → T (has w b) → (T (has v b) → ⊥) → T (has more b)
  left_over b h n = subst T (sym (k b)) (and_of (has w b) _ h (not_T (has v b) n))

  held : (m : ℕ) → (d : ℕ) → d < least (has more) m → T (has w d) → T (has v d)
  held m d l h = certain (has v d) (λ n. (lowest (has more) m).first d l (subst T (sym (k d)) (and_of (has w d) _ h n)))

  pub lack_found : {r : ℕ} → r ≡ least (has more) 32 → r < 24 → FirstLack w v r
  lack_found {r} e l = record { below = l; here = and_l (has w r) _ hit; lacks = T_not (has v r) (and_r (has w r) _ hit); first = λ d h x. held 32 d (omega (arith, e)) x }
    where
      hit : T (has w r && not (has v r))
      hit = subst T (k r) (subst (λ (j : ℕ). T (has more j)) (sym e) ((lowest (has more) 32).hit (omega arith)))

  pub lack_none : 24 ≤ least (has more) 32 → (d : ℕ) → d < 24 → T (has w d) → T (has v d)
  lack_none l d h x = held 32 d (omega arith) x

pub one_bit : {w r d : ℕ} → Walk 32 w r → r ≡ 0 → d ≡ least (has w) 32 → d < 24 → OnlyJob w d
one_bit k z e l = record { below = l; only = λ i y. ⊎_elim (λ q. omega arith) (λ q. absurd (has_zero i (subst (λ (v : ℕ). T (has v i)) z q))) (k.rest i y) }
