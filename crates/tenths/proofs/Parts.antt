-- The parts of a float: they are its exact value, and its bits tell them (`sized-bits`), from which comes what `floor_times` works out. Assumes nothing.
use mathlib.Core.Path.{◌≡◌, refl, sym, ap, ◌∙◌, subst}
use mathlib.Core.Bool.{Bool, true, false, ◌&&◌, cond}
use Prim.Native.Nat.{ℕ, zero, suc, ◌+◌, ◌-◌, ◌*◌, ◌%◌, ◌^◌, ◌≤◌, ◌<◌, min, zero-le}
use native.Mathlib.Nat.{le_trans, le_of_eq, lt_of_lt_of_le, lt_of_le_of_lt, lt_of_not-le, lt_irrefl, mul-one, one-mul, mul_comm, mul_assoc, mul-le-mul_left, mul-le-mul_right, eq_of_mul-eq-mul_right, add-zero, le-suc, zero-div, div-le_of_le-mul}
use native.Mathlib.Omega.{arith}
use native.Mathlib.Decide.{dec_le}
use lib.IntN.{ℤ, pos, negsuc, neg_ℤ, ◌+ℤ◌, ◌*ℤ◌}
use lib.Signed.{shr_z, mag}
use lib.Dec.{T, leb, ltb, eqb, leb→le, eqb→eq, lit<, lit≤}
use lib.Pow.{pow-add, pow_mono, pow-lt, pow_pos}
use lib.Ieee.{Float, nan, inf, fin, binary64, up, down, odd, fits, of_fields, of_bits, to_bits}
use lib.Ieee.Fits.{down_pos, and_l, and_r}
use lib.Ieee.Bits.{of_bits-to_bits}
use lib.Ieee.Exact.{HasValue, odd_sign}
use Rattle.tenths.specs.Tenths.{one, half_one, signed, parts_in, parts, in_range, tenths}
use Rattle.tenths.specs.Bits.{field, digits_of, place_of, drop_of, floor_times}
use Rattle.tenths.proofs.Floor.{cut, few, times_neg, neg_times, half_up}

-- ---- parts over one are the value

below_one : (k : ℕ) → 2 ^ suc k ≤ 2 ^ 1074 → suc k ≤ 1074
below_one k h = lt_of_not-le (λ (g : 1074 ≤ k). lt_irrefl (2 ^ 1074) (lt_of_lt_of_le (lt_of_le_of_lt (pow_mono g) (pow-lt (omega arith))) h))

-- 2 ^ e is the fraction up e / down e, so m * 2 ^ e is parts_in m e / one
pub parts_exact : (m : ℕ) (e : ℤ) → down e ≤ 2 ^ 1074 → parts_in m e * down e ≡ m * up e * one
parts_exact m (pos k) h = mul-one (m * 2 ^ (1074 + k)) ∙ ap (λ (n : ℕ). m * n) (pow-add 2 1074 k ∙ mul_comm (2 ^ 1074) (2 ^ k)) ∙ sym (mul_assoc m (2 ^ k) (2 ^ 1074))
parts_exact m (negsuc k) h =
    mul_assoc m (2 ^ (1074 - suc k)) (2 ^ suc k)
    ∙ ap (λ (n : ℕ). m * n) (sym (pow-add 2 (1074 - suc k) (suc k)) ∙ ap (λ (n : ℕ). 2 ^ n) (all (below_one k h)))
    ∙ ap (λ (n : ℕ). n * 2 ^ 1074) (sym (mul-one m))
  where
    all : suc k ≤ 1074 → 1074 - suc k + suc k ≡ 1074
    all l = omega arith

-- of a 64-bit float
pub down_le : (s : Bool) (m : ℕ) (e : ℤ) → T (fits binary64 (fin s m e)) → down e ≤ 2 ^ 1074
unfolding fits
down_le s zero (pos k) h = lit≤ tt
down_le s zero (negsuc k) h = le_trans (le_of_eq (sym (one-mul (2 ^ suc k)) ∙ eqb→eq (1 * 2 ^ suc k) 1 h)) (lit≤ tt)
down_le s (suc m) e h =
    leb→le (down e) (2 ^ 1074)
    (and_r (eqb (suc m % 2) 1 && ltb (suc m) (2 ^ 53)) (leb (down e) (2 ^ 1074))
    (and_l (eqb (suc m % 2) 1 && ltb (suc m) (2 ^ 53) && leb (down e) (2 ^ 1074)) (ltb (suc m * up e) (2 ^ 1024 * down e)) h))

-- ---- of a float in range: its sign, and its size in parts

pub record Sized (x : Float) (s : Bool) (n : ℕ) : Type 0 where
  pub are : parts x ≡ signed s n
  pub within : n ≤ 100 * one

sized : (x : Float) (s : Bool) (n : ℕ) → T (fits binary64 x) → T (in_range x) → HasValue x s n one → Sized x s n
unfolding parts in_range
sized nan s n f r v = absurd v
sized (inf t) s n f r v = absurd v
sized (fin t m e) s n f r v =
    let same : parts_in m e ≡ n = eq_of_mul-eq-mul_right (down e) (down_pos e) (parts_in m e) n (parts_exact m e (down_le t m e f) ∙ v.1) in
    record { are = ap (λ (b : Bool). signed b (parts_in m e)) v.0 ∙ ap (λ (k : ℕ). signed s k) same; within = subst (λ (k : ℕ). k ≤ 100 * one) same (leb→le (parts_in m e) (100 * one) r) }

-- ---- from the bits

-- in range, so neither an infinity nor a NaN
past_top : (a b s : Bool) (v : Float) → T (in_range (cond a (cond b (inf s) nan) v)) → cond a (cond b (inf s) nan) v ≡ v
unfolding in_range
past_top true true s v r = absurd r
past_top true false s v r = absurd r
past_top false b s v r = refl

read : (s : Bool) (f t : ℕ) → T (in_range (of_fields binary64 s f t)) → HasValue (of_fields binary64 s f t) s ((t + min f 1 * 2 ^ 52) * 2 ^ (f - 1)) one
unfolding of_fields
read s zero t r = rw (add-zero t) (odd_sign 53 s t 0 1074)
read s (suc j) t r =
    let lead : t + min (suc j) 1 * 2 ^ 52 ≡ 2 ^ 52 + t = omega arith in
    let last : suc j - 1 ≡ j = omega arith in
    subst (λ (v : Float). HasValue v s ((t + min (suc j) 1 * 2 ^ 52) * 2 ^ (suc j - 1)) one) (sym (past_top (eqb (suc j) 2047) (eqb t 0) s (odd 53 s (2 ^ 52 + t) j 1074) r))
    (rw (lead, last) (odd_sign 53 s (2 ^ 52 + t) j 1074))

pub sized_bits : (x : Float) → T (fits binary64 x) → T (in_range x) → Sized x (leb (2 ^ 63) (to_bits binary64 x)) (digits_of (to_bits binary64 x) * 2 ^ place_of (to_bits binary64 x))
unfolding of_bits
sized_bits x f r =
    let b = to_bits binary64 x in
    let s = leb (2 ^ 63) b in
    let is : of_bits binary64 b ≡ x = of_bits-to_bits binary64 x f in
    sized x s (digits_of b * 2 ^ place_of b) f r
    (subst (λ (v : Float). HasValue v s (digits_of b * 2 ^ place_of b) one) is (read s (field b) (b % 2 ^ 52) (subst (λ (v : Float). T (in_range v)) (sym is) r)))

-- what is at most 100 has its last digit at one or below
place_le : (t f : ℕ) → (t + min f 1 * 2 ^ 52) * 2 ^ (f - 1) ≤ 100 * one → f - 1 ≤ 1074
place_le t f h = elim (dec_le (f - 1) 1074) [
  | yes k ↦ k
  | no k ↦
      let l : 1075 ≤ f - 1 = lt_of_not-le k in
      let lead : 2 ^ 52 ≤ t + min f 1 * 2 ^ 52 = omega arith in
      let all : 1081 ≤ 52 + (f - 1) = omega arith in
      absurd (lt_irrefl (2 ^ 1081)
      (lt_of_le_of_lt (le_trans (pow_mono all) (le_trans (le_of_eq (pow-add 2 52 (f - 1))) (le_trans (mul-le-mul_right (2 ^ (f - 1)) lead) h))) (lit< tt)))
]

-- ---- what `floor_times` works out

digits_few : (c b : ℕ) → c ≤ 100 → c * digits_of b < 2 ^ 63
digits_few c b h = few h small
  where
    small : digits_of b < 2 ^ 53
    small = omega arith

pub worked : (c : ℕ) (x : Float) → T (fits binary64 x) → T (in_range x) → c ≤ 100
    → shr_z (signed (leb (2 ^ 63) (to_bits binary64 x)) (c * digits_of (to_bits binary64 x))) (2 ^ drop_of (to_bits binary64 x)) ≡ floor_times c x
unfolding floor_times
worked c x f r h =
    let b = to_bits binary64 x in
    let z = sized_bits x f r in
    cut (leb (2 ^ 63) b) c (digits_of b) (place_of b) (digits_few c b h) (place_le (b % 2 ^ 52) (field b) z.within)
    ∙ ap (λ (y : ℤ). shr_z (pos c *ℤ y) one) (sym z.are)

-- ---- half of twenty times the value and one, each rounded down, are the tenths

twice : (n : ℕ) → 10 * n * 2 ≡ 20 * n
twice n = omega arith

doubled : (z : ℤ) → (pos 10 *ℤ z) *ℤ pos 2 ≡ pos 20 *ℤ z
doubled (pos a) = ap pos (twice a)
doubled (negsuc a) = neg_times (10 * suc a) 2 ∙ ap (λ (n : ℕ). neg_ℤ (pos n)) (twice (suc a))

pub halved : (x : Float) → shr_z (floor_times 20 x +ℤ pos 1) 2 ≡ tenths x
unfolding tenths floor_times
halved x = sym (half_up (pos 10 *ℤ parts x) half_one (pow_pos 1073) ∙ ap (λ (z : ℤ). shr_z (shr_z z one +ℤ pos 1) 2) (doubled (parts x)))

-- ---- c times a value from -100 to 100 is at most c hundreds in size

cut_small : (s : Bool) (c p : ℕ) → p ≤ 100 * one → mag (shr_z (pos c *ℤ signed s p) one) ≤ c * 100
cut_small s c p h = go s (le_trans (mul-le-mul_left c h) (le_of_eq (sym (mul_assoc c 100 one) ∙ mul_comm (c * 100) one)))
  where
    neg : (n : ℕ) → n ≤ one * (c * 100) → mag (shr_z (neg_ℤ (pos n)) one) ≤ c * 100
    neg zero l = subst (λ (a : ℕ). a ≤ c * 100) (sym (zero-div one)) zero-le
    neg (suc n) l = div-le_of_le-mul one (le_trans (le-suc n) l)

    go : (s : Bool) → c * p ≤ one * (c * 100) → mag (shr_z (pos c *ℤ signed s p) one) ≤ c * 100
    go true l = rw (times_neg c p) (neg (c * p) l)
    go false l = div-le_of_le-mul one l

pub floor_small : (c : ℕ) (x : Float) → T (in_range x) → mag (floor_times c x) ≤ c * 100
unfolding floor_times in_range
floor_small c nan r = absurd r
floor_small c (inf s) r = absurd r
floor_small c (fin s m e) r = cut_small s c (parts_in m e) (leb→le (parts_in m e) (100 * one) r)
