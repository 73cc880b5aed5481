-- The range as the code tests it: two comparisons of floats (`range-is`). Assumes nothing.
use mathlib.Core.Path.{◌≡◌, refl, sym, ◌∙◌}
use mathlib.Core.Bool.{Bool, true, false, not, ◌&&◌, ◌||◌, and-true}
use Prim.Native.Nat.{ℕ, ◌+◌, ◌*◌, ◌≤◌, ◌<◌}
use native.Mathlib.Nat.{le_trans, le_of_eq, le_of_lt, le_antisymm, lt_of_not-le, mul-one, mul_right_comm, mul-le-mul_right, le_of_mul-le-mul_right}
use native.Mathlib.Omega.{arith}
use native.Mathlib.Decide.{dec_le, ℕ_discrete}
use borrow.Author.Tests.{lt-ltb, le-ltb, le-leb, lt-leb, eq-eqb, ne_eqb}
use lib.IntN.{ℤ, pos}
use lib.Dec.{T, leb, ltb, eqb}
use lib.Pow.{pow_pos}
use lib.Ieee.{Float, nan, inf, fin, binary64, up, down, fits, is_nan, le, lt, eq}
use lib.Ieee.Fits.{down_pos}
use Rattle.tenths.specs.Tenths.{one, parts_in, in_range}
use Rattle.tenths.proofs.Parts.{parts_exact, down_le}

-- the floats 100 and -100
abbrev pub hundred : Float
hundred = fin false 25 (pos 2)

abbrev pub minus_hundred : Float
minus_hundred = fin true 25 (pos 2)

-- a <= b, as floats test it: below or equal
le_test : (a b : ℕ) (q : Bool) → q ≡ eqb a b → (ltb a b || (q && true)) ≡ leb a b
le_test a b q e = rw e (go (dec_le b a) (dec_le a b))
  where
    go : Dec (b ≤ a) → Dec (a ≤ b) → (ltb a b || (eqb a b && true)) ≡ leb a b
    go (yes k) (yes l) = rw (le-ltb a b k, eq-eqb a b (le_antisymm l k), le-leb a b l)
    go (yes k) (no l) = rw (le-ltb a b k, ne_eqb a b (λ i. l (le_of_eq i)), lt-leb a b (lt_of_not-le l))
    go (no k) l = rw (lt-ltb a b (lt_of_not-le k), le-leb a b (le_of_lt (lt_of_not-le k)))

eqb_sym : (a b : ℕ) → eqb a b ≡ eqb b a
eqb_sym a b = go (ℕ_discrete a b)
  where
    go : Dec (a ≡ b) → eqb a b ≡ eqb b a
    go (yes e) = rw e
    go (no n) = ne_eqb a b n ∙ sym (ne_eqb b a (λ i. n (sym i)))

-- the bound beyond zero always holds, and the other compares sizes
compared : (s : Bool) (m : ℕ) (e : ℤ) → (le minus_hundred (fin s m e) && le (fin s m e) hundred) ≡ leb (m * up e) (100 * down e)
unfolding le lt eq
compared false m e =
    let n = m * up e in
    let d = down e in
    rw (lt-ltb 0 (100 * d + n * 1) (omega (arith, down_pos e)), mul-one n) (le_test n (100 * d) (eqb n (100 * d)) refl)
compared true m e =
    let n = m * up e in
    let d = down e in
    rw (lt-ltb 0 (n * 1 + 100 * d) (omega (arith, down_pos e)), and-true (le minus_hundred (fin true m e)), mul-one n) (le_test n (100 * d) (eqb (100 * d) n) (eqb_sym (100 * d) n))

-- a value n / d is at most 100 exactly where its parts are
crossed : (n d p : ℕ) → 0 < d → p * d ≡ n * one → leb n (100 * d) ≡ leb p (100 * one)
crossed n d p D e = go (dec_le n (100 * d))
  where
    go : Dec (n ≤ 100 * d) → leb n (100 * d) ≡ leb p (100 * one)
    go (yes h) = le-leb n (100 * d) h ∙ sym (le-leb p (100 * one) (le_of_mul-le-mul_right (le_trans (le_of_eq e) (le_trans (mul-le-mul_right one h) (le_of_eq (mul_right_comm 100 d one)))) D))
    go (no h) = lt-leb n (100 * d) (lt_of_not-le h) ∙ sym (lt-leb p (100 * one) (lt_of_not-le (λ l. h (le_of_mul-le-mul_right (le_trans (le_of_eq (sym e)) (le_trans (mul-le-mul_right d l) (le_of_eq (mul_right_comm 100 one d)))) (pow_pos 1074)))))

pub range_is : (x : Float) → T (fits binary64 x) → (le minus_hundred x && le x hundred) ≡ in_range x
unfolding in_range le lt eq
range_is nan f = refl
range_is (inf true) f = refl
range_is (inf false) f = refl
range_is (fin s m e) f = compared s m e ∙ crossed (m * up e) (down e) (parts_in m e) (down_pos e) (parts_exact m e (down_le s m e f))

-- its bits may be read
pub no_nan : (x : Float) → T (in_range x) → T (not (is_nan x))
unfolding in_range is_nan
no_nan nan r = absurd r
no_nan (inf s) r = tt
no_nan (fin s m e) r = tt
