-- Tests in the order of the code.
-- Assumes nothing.
use mathlib.Core.Path.{◌≡◌, refl, sym, subst}
use mathlib.Core.Bool.{Bool, true, false, ◌&&◌, and-true, and-false}
use Prim.Native.Nat.{ℕ}
use lib.Dec.{T}
use Rattle.facts.specs.Facts.{has}
use Rattle.facts.specs.Least.{any}
use Rattle.facts.proofs.Bools.{same}
use Rattle.facts.proofs.Sets.{has_zero}
use Rattle.facts.proofs.Least.{any_none}

-- ── tests in the order of the code ──

pub way : (c h o x y : Bool) → (h && ((c && (x && y)) && o)) ≡ (c && (h && (o && (x && y))))
way c false o x y = sym (and-false c)
way true true true true y = and-true y
way true true true false y = refl
way true true false true true = refl
way true true false true false = refl
way true true false false y = refl
way false true o x y = refl

pub fit_yes : (x h y z : Bool) → (x && y) ≡ true → (h && z) ≡ (x && (h && (y && z)))
fit_yes true h true z e = refl
fit_yes true h false z e = absurd (subst T (sym e) tt)
fit_yes false h y z e = absurd (subst T (sym e) tt)

pub fit_no : (x h y z : Bool) → (x && y) ≡ false → false ≡ (x && (h && (y && z)))
fit_no true h true z e = absurd (subst T e tt)
fit_no true true false z e = refl
fit_no true false false z e = refl
fit_no false h y z e = refl

-- no fact is in the word 0
pub no_fact : (p : ℕ) → has 0 p ≡ false
no_fact p = same (has 0 p) false (has_zero p) (λ x. absurd x)

-- ── some number passes ──

pub any_if : (x : Bool) (f : ℕ → Bool) (n : ℕ) → any (λ p. x && f p) n ≡ (x && any f n)
any_if true f n = refl
any_if false f n = sym (any_none (λ p. false) n (λ i l h. h))
