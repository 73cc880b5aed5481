-- Copied forwards, a byte is read before it is written over.
-- Assumes nothing.
use mathlib.Core.Path.{◌≡◌, refl, sym, ap, ◌∙◌}
use mathlib.Core.List.{List}
use Prim.Native.Nat.{ℕ, zero, suc, ◌+◌, ◌-◌, ◌≤◌, ◌<◌}
use native.Mathlib.Numerals.{add-one}
use native.Mathlib.Omega.{arith}
use lib.ListN.{length, get_or, take, drop, set, length-drop}
use lib.Seq.{length-take-le, take-suc, take_at, get_or-drop}
use Rattle.bytes_le.specs.Little.{at_front}
use Rattle.bytes_le.proofs.Laid.{over_one, over_rest}
use Rattle.jobfile_tidy.specs.Copies.{forwards}

-- one byte more is copied; it stands where it stood, since fewer are written than lie before it
pub front_more : (from i : ℕ) (xs : List ℕ) {ys : List ℕ} → from + i < length xs → ys ≡ at_front (take i (drop from xs)) xs
    → set ys i (get_or ys (from + i) 0) ≡ at_front (take (i + 1) (drop from xs)) xs
front_more from i xs {ys} l e =
    ap (λ (zs : List ℕ). set zs i (get_or zs (from + i) 0)) e
    ∙ ap (set (at_front w xs) i) (over_rest w xs (from + i) (omega (arith, long)) ∙ sym (get_or-drop from xs i 0))
    ∙ over_one w xs i (get_or (drop from xs) i 0) long (omega arith)
    ∙ ap (λ (t : List ℕ). at_front t xs) (sym (take-suc (drop from xs) i 0 (omega (arith, length-drop from xs))) ∙ ap (λ (n : ℕ). take n (drop from xs)) (sym (add-one i)))
  where
    w : List ℕ
    w = take i (drop from xs)

    long : length w ≡ i
    long = length-take-le i (drop from xs) (omega (arith, length-drop from xs))

-- all n bytes are copied as they stood
pub forwards_is : (from n : ℕ) (xs : List ℕ) → from + n ≤ length xs → forwards from n xs ≡ at_front (take n (drop from xs)) xs
unfolding forwards
forwards_is from zero xs l = refl
forwards_is from (suc i) xs l =
    front_more from i xs (omega arith) (forwards_is from i xs (omega arith)) ∙ ap (λ (k : ℕ). at_front (take k (drop from xs)) xs) (add-one i)

-- the last n of the bytes in use are what copying them forwards leaves at the front
pub front_forwards : (n used : ℕ) (xs : List ℕ) → n ≤ used → used ≤ length xs → take n (drop (used - n) xs) ≡ take n (forwards (used - n) n xs)
front_forwards n used xs l m =
    sym (ap (take n) (forwards_is (used - n) n xs (omega arith)) ∙ take_at w _ n long)
  where
    w : List ℕ
    w = take n (drop (used - n) xs)

    long : length w ≡ n
    long = length-take-le n (drop (used - n) xs) (omega (arith, length-drop (used - n) xs))
