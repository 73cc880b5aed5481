-- Bytes laid over a lent list, and the part of it that is lent on.
-- Assumes nothing.
use mathlib.Core.Path.{◌≡◌, refl, sym, ap, ap₂, ◌∙◌}
use mathlib.Core.List.{List, [], ◌∷◌, ◌++◌, append_assoc, append-nil}
use Prim.Native.Nat.{ℕ, suc, ◌+◌, ◌-◌, ◌/◌, ◌%◌, ◌^◌, ◌≤◌, ◌<◌}
use native.Mathlib.Numerals.{add-one}
use native.Mathlib.Omega.{arith}
use lib.ListN.{length, get_or, take, drop, set, length-append, length-take, length-drop, take-append-drop, drop_of_length-le}
use lib.Seq.{drop-append-le, drop-cons, drop-drop, take_all, take_at, drop_at, set_at, append_snoc, take-append-add, drop-append-add, length-take-le, get_or-append-add, get_or-drop}
use Rattle.bytes_le.specs.Little.{little, at_front, laid}
use Rattle.bytes_le.proofs.Numbers.{length_little, little_more}

pub length_over : (w xs : List ℕ) → length w ≤ length xs → length (at_front w xs) ≡ length xs
length_over w xs l = simp (length-append, length-drop) (omega arith)

pub length_laid : (w : List ℕ) (at : ℕ) (xs : List ℕ) → at + length w ≤ length xs → length (laid w at xs) ≡ length xs
length_laid w at xs l = simp (length-append, length-drop, length-take) (omega arith)

-- one list of bytes laid behind another
pub over_next : (v w xs : List ℕ) (at : ℕ) → at ≡ length v → laid w at (at_front v xs) ≡ at_front (v ++ w) xs
over_next v w xs at e =
    ap₂ (λ (a b : List ℕ). a ++ at_front w b) (take_at v (drop (length v) xs) at (sym e)) (drop_at v (drop (length v) xs) at (sym e))
    ∙ ap (λ (t : List ℕ). v ++ (w ++ t)) (drop-drop (length w) (length v) xs ∙ ap (λ (n : ℕ). drop n xs) (sym (length-append v w)))
    ∙ sym (append_assoc v w _)

pub over_then : (v w xs : List ℕ) (at : ℕ) {ys zs : List ℕ} → at ≡ length v → ys ≡ at_front v xs → zs ≡ laid w at ys → zs ≡ at_front (v ++ w) xs
over_then v w xs at e h k = k ∙ ap (laid w at) h ∙ over_next v w xs at e

-- the same from a place on
pub laid_then : (v w : List ℕ) (at : ℕ) (xs : List ℕ) (to : ℕ) {ys zs : List ℕ} → to ≡ at + length v → at ≤ length xs → ys ≡ laid v at xs → zs ≡ laid w to ys
    → zs ≡ laid (v ++ w) at xs
laid_then v w at xs to {ys} e l h k =
    k ∙ ap₂ (λ (n : ℕ) (t : List ℕ). laid w n t) place h
    ∙ ap₂ (λ (a b : List ℕ). a ++ at_front w b) (take-append-add p rest (length v)) (drop-append-add p rest (length v))
    ∙ append_assoc p _ _
    ∙ ap (λ (t : List ℕ). p ++ t) (over_next v w (drop at xs) (length v) refl)
  where
    p : List ℕ
    p = take at xs

    rest : List ℕ
    rest = at_front v (drop at xs)

    place : to ≡ length p + length v
    place = omega (arith, length-take-le at xs l)

-- one byte more behind those laid over the first places
pub over_one : (w xs : List ℕ) (k b : ℕ) → length w ≡ k → k < length xs → set (at_front w xs) k b ≡ at_front (w ++ (b ∷ [])) xs
over_one w xs k b e l =
    ap (λ (t : List ℕ). set (w ++ t) k b) (drop-cons xs (length w) 0 (omega arith))
    ∙ set_at w _ _ b k e
    ∙ sym (append_snoc w b _)
    ∙ ap (λ (t : List ℕ). w ++ (b ∷ []) ++ t) (ap (λ (n : ℕ). drop n xs) n)
  where
    n : suc (length w) ≡ length (w ++ (b ∷ []))
    n = omega (arith, length-append w (b ∷ []))

-- what stands behind them is as it was
pub over_rest : (w xs : List ℕ) (i : ℕ) → length w ≤ i → get_or (at_front w xs) i 0 ≡ get_or xs i 0
over_rest w xs i l =
    let e : i ≡ length w + (i - length w) = omega arith in
    ap (λ (n : ℕ). get_or (at_front w xs) n 0) e ∙ get_or-append-add w (drop (length w) xs) (i - length w) 0 ∙ get_or-drop (length w) xs (i - length w) 0 ∙ sym (ap (λ (n : ℕ). get_or xs n 0) e)

-- one byte more of a number
pub over_more : (k v : ℕ) (xs : List ℕ) → k < length xs → set (at_front (little k v) xs) k (v / 256 ^ k % 256) ≡ at_front (little (k + 1) v) xs
over_more k v xs l =
    over_one (little k v) xs k (v / 256 ^ k % 256) (length_little k v) l
    ∙ ap (λ (w : List ℕ). at_front w xs) (sym (little_more k v) ∙ ap (λ (m : ℕ). little m v) (sym (add-one k)))

-- the tail of a list, as it is lent from a place on
pub tail_all : (n : ℕ) (xs : List ℕ) → take (length xs - n) (drop n xs) ≡ drop n xs
tail_all n xs = take_all (length xs - n) (drop n xs) (omega (arith, length-drop n xs))

-- the tail of a list is lent from place `at`, and comes back with w laid over it
pub tail_back : (w : List ℕ) (at : ℕ) (xs : List ℕ) {ys : List ℕ} → ys ≡ at_front w (take (length xs - at) (drop at xs)) → at + length w ≤ length xs
    → take at xs ++ (ys ++ drop (length xs - at) (drop at xs)) ≡ laid w at xs
tail_back w at xs {ys} e l =
    ap (λ (t : List ℕ). take at xs ++ t)
    (ap (λ (t : List ℕ). t ++ drop k (drop at xs)) e ∙ append_assoc w _ _
    ∙ ap (λ (t : List ℕ). w ++ t) (sym (drop-append-le (length w) (take k (drop at xs)) (drop k (drop at xs)) (simp (length-take, length-drop) (omega arith))) ∙ ap (drop (length w)) (take-append-drop k (drop at xs))))
  where
    k : ℕ
    k = length xs - at

-- the first places of a list are lent, and come back with w laid over all of them
pub front_back : (w xs : List ℕ) {n : ℕ} {ys : List ℕ} → length w ≡ n → n ≤ length xs → ys ≡ at_front w (take n xs) → ys ++ drop n xs ≡ at_front w xs
front_back w xs {n} e l h =
    ap₂ (λ (t : List ℕ) (k : ℕ). t ++ drop k xs) (h ∙ ap (λ (t : List ℕ). w ++ t) (drop_of_length-le (take n xs) (omega (arith, length-take-le n xs l))) ∙ append-nil w) (sym e)
