-- Texts put one behind another.
-- Assumes nothing.
use mathlib.Core.Path.{◌≡◌, refl, sym, ap, ◌∙◌}
use mathlib.Core.Bool.{Bool, true, false}
use mathlib.Core.List.{List, [], ◌∷◌, ◌++◌}
use Prim.Native.Nat.{ℕ, ◌+◌, ◌*◌, ◌/◌, ◌%◌, ◌≤◌, ◌<◌}
use native.Mathlib.Omega.{arith}
use native.Mathlib.Nat.{mul-suc}
use native.Mathlib.Numerals.{add-one}
use borrow.Author.Tests.{le-leb, lt-leb}
use lib.ListN.{length, set, take, drop, length-append, take-append-drop}
use lib.Seq.{set_split, drop-drop, take-length}
use Rattle.rules.specs.Pairs.{joined}
use Rattle.bytes_le.specs.Little.{at_front}
use Rattle.bytes_le.proofs.Laid.{laid_then}
use Rattle.lines.specs.Lines.{text_if, digit}
use Rattle.lines.specs.Lays.{Lays}

pub lays_none : (at : ℕ) (xs : List ℕ) → Lays 0 [] at xs xs at
lays_none at xs = record { next = omega arith; fits = omega arith; bytes = sym (take-append-drop at xs) }

pub lays_one : (c at : ℕ) (xs : List ℕ) → at < length xs → Lays 1 (c ∷ []) at xs (set xs at c) (at + 1)
lays_one c at xs l = record { next = refl; fits = omega arith; bytes = set_split xs at c l ∙ ap (λ (t : List ℕ). take at xs ++ (c ∷ t)) (ap (λ (n : ℕ). drop n xs) (sym (add-one at)) ∙ sym (drop-drop 1 at xs)) }

-- one text behind another
pub lays_then : {m n at to r : ℕ} {v w xs ys zs : List ℕ} → at ≤ length xs → Lays m v at xs ys to → Lays n w to ys zs r → Lays (m + n) (v ++ w) at xs zs r
lays_then {m} {n} {at} {to} {r} {v} {w} {xs} l p q = record {
  next = q.next ∙ omega (arith, p.next, length-append v w);
  fits = omega (arith, p.fits, q.fits, length-append v w);
  bytes = laid_then v w at xs to p.next l p.bytes q.bytes;
}

-- any length that the text keeps to serves
pub lays_fit : {m n at r : ℕ} {text xs ys : List ℕ} → Lays m text at xs ys r → length text ≤ n → Lays n text at xs ys r
lays_fit p l = record { next = p.next; fits = l; bytes = p.bytes }

-- one entry more of a list in order, as a loop's counter says it
pub lays_next : (f : ℕ → List ℕ) (k : ℕ) {m w at to r : ℕ} {xs ys zs : List ℕ} → at ≤ length xs → Lays m (joined f k) at xs ys to → Lays w (f k) to ys zs r
    → Lays (m + w) (joined f (k + 1)) at xs zs r
unfolding joined
lays_next f k l p q = rw add-one (lays_then l p q)

-- lines of w letters at most
pub lays_line : (f : ℕ → List ℕ) (w k : ℕ) {at to r : ℕ} {xs ys zs : List ℕ} → at ≤ length xs → Lays (w * k) (joined f k) at xs ys to → Lays w (f k) to ys zs r
    → Lays (w * (k + 1)) (joined f (k + 1)) at xs zs r
lays_line f w k l p q = let n = lays_next f k l p q in let e : w * (k + 1) ≡ w * k + w = ap (λ (i : ℕ). w * i) (add-one k) ∙ mul-suc w k in lays_fit n (omega (arith, n.fits))

-- a word copied over the first places
pub word_back : (w xs : List ℕ) {ys : List ℕ} → ys ≡ take (length w) w ++ drop (length w) xs → ys ≡ at_front w xs
word_back w xs e = e ∙ ap (λ (t : List ℕ). t ++ drop (length w) xs) (take-length w)

-- ── a text that a test allows ──

pub text_yes : (b : Bool) (text : List ℕ) → b ≡ true → text_if b text ≡ text
unfolding text_if
text_yes b text e = rw e refl

pub text_no : (b : Bool) (text : List ℕ) → b ≡ false → text_if b text ≡ []
unfolding text_if
text_no b text e = rw e refl

-- ── digits ──

pub digit_none : (n u : ℕ) → n < u → digit n u ≡ []
digit_none n u l = text_no _ _ (lt-leb u n l)

pub digit_some : (n u : ℕ) → u ≤ n → digit n u ≡ (48 + n / u % 10) ∷ []
digit_some n u l = text_yes _ _ (le-leb u n l)
