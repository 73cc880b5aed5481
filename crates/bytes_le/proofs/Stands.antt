-- Bytes that stand somewhere in a list: what was written is read, and what was read is written.
-- Assumes nothing.
use mathlib.Core.Path.{◌≡◌, sym, ap, ◌∙◌}
use mathlib.Core.List.{List, ◌++◌}
use Prim.Native.Nat.{ℕ, zero, suc, ◌+◌, ◌-◌, ◌*◌, ◌/◌, ◌^◌, ◌≤◌, ◌<◌}
use native.Mathlib.Nat.{add_assoc, add-zero, zero-add}
use native.Mathlib.Decide.{dec_lt}
use native.Mathlib.Omega.{arith}
use lib.ListN.{length, get_or, take, drop, length-append, length-take, get_or-append, get_or-eq_default}
use lib.Seq.{get_or-append-add, get_or-take, get_or-drop, length-take-le, ext_get_or}
use Rattle.bytes_le.specs.Little.{little, number, at_front, laid}
use Rattle.bytes_le.specs.Steps.{Bytes}
use Rattle.bytes_le.proofs.Numbers.{number_same, number_little, length_little}

-- the bytes w stand in the list from place `at` on
abbrev pub Stands : (w : List ℕ) (at : ℕ) (xs : List ℕ) → Type 0
Stands w at xs = (i : ℕ) → i < length w → get_or xs (at + i) 0 ≡ get_or w i 0

pub stands_left : (a b : List ℕ) (at : ℕ) (xs : List ℕ) → Stands (a ++ b) at xs → Stands a at xs
stands_left a b at xs h i l = h i (omega (arith, length-append a b)) ∙ get_or-append a b 0 i l

pub stands_right : (a b : List ℕ) (at : ℕ) (xs : List ℕ) → Stands (a ++ b) at xs → Stands b (at + length a) xs
stands_right a b at xs h i l =
    ap (λ (n : ℕ). get_or xs n 0) (add_assoc at (length a) i) ∙ h (length a + i) (omega (arith, length-append a b)) ∙ get_or-append-add a b i 0

pub stands_both : (a b : List ℕ) (at : ℕ) (xs : List ℕ) → Stands a at xs → Stands b (at + length a) xs → Stands (a ++ b) at xs
stands_both a b at xs g h i l = go (dec_lt i (length a))
  where
    go : Dec (i < length a) → get_or xs (at + i) 0 ≡ get_or (a ++ b) i 0
    go (yes m) = g i m ∙ sym (get_or-append a b 0 i m)
    go (no m) =
        let j : i ≡ length a + (i - length a) = omega arith in
        let e : at + i ≡ at + length a + (i - length a) = omega arith in
        ap (λ (n : ℕ). get_or xs n 0) e ∙ h (i - length a) (omega (arith, length-append a b)) ∙ sym (ap (λ (n : ℕ). get_or (a ++ b) n 0) j ∙ get_or-append-add a b (i - length a) 0)

-- reading what was written
pub stands_number : (k v at : ℕ) (xs : List ℕ) → v < 256 ^ k → Stands (little k v) at xs → number k xs at ≡ v
stands_number k v at xs l h = number_same k xs (little k v) at 0 (λ i m. h i (omega (arith, length_little k v)) ∙ ap (λ (n : ℕ). get_or (little k v) n 0) (omega arith)) ∙ number_little k v l

-- and writing what was read
pub number_stands : (k at : ℕ) (xs : List ℕ) → Bytes xs → Stands (little k (number k xs at)) at xs
unfolding number little
number_stands zero at xs b i l = absurd (omega arith)
number_stands (suc k) at xs b zero l = let z = b at in ap (λ (n : ℕ). get_or xs n 0) (add-zero at) ∙ omega arith
number_stands (suc k) at xs b (suc i) l =
    ap (λ (n : ℕ). get_or xs n 0) (omega arith) ∙ number_stands k (suc at) xs b i (omega (arith, length_little (suc k) (number (suc k) xs at), length_little k (number k xs (suc at))))
    ∙ ap (λ (n : ℕ). get_or (little k n) i 0) (rest (b at))
  where
    rest : get_or xs at 0 < 256 → number k xs (suc at) ≡ (get_or xs at 0 + 256 * number k xs (suc at)) / 256
    rest h = omega arith

-- ── parts of a list ──

pub stands_drop : (w : List ℕ) (a at : ℕ) (xs : List ℕ) → Stands w (a + at) xs → Stands w at (drop a xs)
stands_drop w a at xs h i l = get_or-drop a xs (at + i) 0 ∙ ap (λ (n : ℕ). get_or xs n 0) (sym (add_assoc a at i)) ∙ h i l

pub stands_take : (w : List ℕ) (n at : ℕ) (xs : List ℕ) → at + length w ≤ n → Stands w at xs → Stands w at (take n xs)
stands_take w n at xs m h i l = get_or-take n xs (at + i) 0 (omega arith) ∙ h i l

pub stands_laid : (w : List ℕ) (at : ℕ) (xs : List ℕ) → at ≤ length xs → Stands w at (laid w at xs)
stands_laid w at xs m i l =
    ap (λ (n : ℕ). get_or (laid w at xs) (n + i) 0) (sym (length-take-le at xs m))
    ∙ get_or-append-add (take at xs) (at_front w (drop at xs)) i 0 ∙ get_or-append w _ 0 i l

-- bytes that fill the list are the list
pub stands_all : (w xs : List ℕ) → length xs ≡ length w → Stands w 0 xs → xs ≡ w
stands_all w xs e h = ext_get_or 0 xs w e (λ i l. ap (λ (n : ℕ). get_or xs n 0) (sym (zero-add i)) ∙ h i (omega arith))

-- bytes of a part of the list are bytes
pub bytes_drop : (a : ℕ) (xs : List ℕ) → Bytes xs → Bytes (drop a xs)
bytes_drop a xs b i = let e = get_or-drop a xs i 0 in let l = b (a + i) in omega arith

pub bytes_take : (n : ℕ) (xs : List ℕ) → Bytes xs → Bytes (take n xs)
bytes_take n xs b i = go (dec_lt i n)
  where
    go : Dec (i < n) → get_or (take n xs) i 0 < 256
    go (yes l) = let e = get_or-take n xs i 0 l in let m = b i in omega arith
    go (no l) = let e = get_or-eq_default (take n xs) 0 {n = i} (omega (arith, length-take n xs)) in omega arith
