-- Laws of `shr_z n d`, n / d rounded down: what is left over, a factor common to both cancels, one d more gives one more, and 63 places shift a 64-bit number out as more would.
-- So shifting c times the digits is c times the parts over one (`cut`), and half of twice a number and one is the number and a half (`half_up`). Assumes nothing.
use mathlib.Core.Path.{◌≡◌, refl, sym, ap, ◌∙◌}
use mathlib.Core.Bool.{Bool, true, false}
use Prim.Native.Nat.{ℕ, zero, suc, ◌+◌, ◌-◌, ◌*◌, ◌/◌, ◌%◌, ◌^◌, ◌≤◌, ◌<◌, min}
use native.Mathlib.Nat.{suc-mul, mul_assoc, mul_comm, mul-zero, zero-mul, mul-div-mul_right, mul-le-mul_right, div-eq_of_lt, div-div-eq-div-mul, add-div_right, div-mul-le_self, le-div_iff_mul-le, le_trans, mod-lt, div-add-mod', lt_of_lt_of_le, lt_of_not-le, le_of_lt}
use native.Mathlib.Omega.{arith}
use native.Mathlib.Decide.{dec_le}
use lib.Dec.{lit<, leb→le, le→leb}
use lib.IntN.{ℤ, pos, negsuc, neg_ℤ, suc_ℤ, ◌+ℤ◌, ◌*ℤ◌, +ℤ_one}
use lib.Signed.{shr_z, mag, ◌≤ℤ◌, le_z_yes}
use lib.Arith.{digits_div}
use lib.Pow.{pow-add, pow_pos, pow_mono}
use Rattle.tenths.specs.Tenths.{signed}
use Rattle.tenths.proofs.Whole.{differing}

-- ---- what is left over

abbrev pub rest : ℤ → ℕ → ℕ
rest (pos a) d = a % d
rest (negsuc a) d = d - suc (a % d)

pub rest_lt : (z : ℤ) {d : ℕ} → 0 < d → rest z d < d
rest_lt (pos a) D = mod-lt a D
rest_lt (negsuc a) D = omega arith

pub rest_is : (z : ℤ) (d : ℕ) → 0 < d → z ≡ shr_z z d *ℤ pos d +ℤ pos (rest z d)
rest_is (pos a) d D = ap pos (sym (div-add-mod' a d))
rest_is (negsuc a) d D = sym (ap (λ (n : ℕ). neg_ℤ (pos n) +ℤ pos (d - suc (a % d))) (suc-mul (a / d) d ∙ whole (a / d * d) (a % d) (div-add-mod' a d) (mod-lt a D)) ∙ back (d - suc (a % d)))
  where
    whole : (q r : ℕ) → q + r ≡ a → r < d → q + d ≡ suc (a + (d - suc r))
    whole q r e l = omega arith

    back : (k : ℕ) → negsuc (a + k) +ℤ pos k ≡ negsuc a
    back k = differing (λ (z : ℤ). z ≡ negsuc a) k (suc (a + k)) (λ l. ap negsuc (less k)) (λ l. absurd (never k l))
      where
        less : (k : ℕ) → suc (a + k) - suc k ≡ a
        less k = omega arith

        never : (k : ℕ) → suc (a + k) ≤ k → ⊥
        never k l = omega arith

-- ---- of a larger number

div_mono : (a b d : ℕ) → 0 < d → a ≤ b → a / d ≤ b / d
div_mono a b d D h = (le-div_iff_mul-le D).1 (le_trans (div-mul-le_self a d) h)

pub shr_mono : (y z : ℤ) (d : ℕ) → 0 < d → y ≤ℤ z → shr_z y d ≤ℤ shr_z z d
shr_mono (pos a) (pos b) d D h = le_z_yes (le→leb (a / d) (b / d) (div_mono a b d D (leb→le a b h.le)))
shr_mono (pos a) (negsuc b) d D h = absurd h.le
shr_mono (negsuc a) (pos b) d D h = le_z_yes tt
shr_mono (negsuc a) (negsuc b) d D h = le_z_yes (le→leb (b / d) (a / d) (div_mono b a d D (leb→le b a h.le)))

-- ---- a common factor

pub scale : (z : ℤ) (d u : ℕ) → 0 < u → shr_z (z *ℤ pos u) (d * u) ≡ shr_z z d
scale (pos a) d u U = ap pos (mul-div-mul_right a d U)
scale (negsuc a) d u U =
    ap (λ (n : ℕ). shr_z (neg_ℤ (pos n)) (d * u)) (suc-mul a u ∙ less (a * u))
    ∙ ap negsuc (ap (λ (k : ℕ). (a * u + (u - 1)) / k) (mul_comm d u) ∙ sym (div-div-eq-div-mul (a * u + (u - 1)) u d) ∙ ap (λ (n : ℕ). n / d) (digits_div a (omega arith)))
  where
    less : (n : ℕ) → n + u ≡ suc (n + (u - 1))
    less n = omega arith

-- ---- a half more

one_more : (n d : ℕ) → 0 < d → (n + d) / d ≡ suc (n / d)
one_more n d D = add-div_right n D ∙ up (n / d)
  where
    up : (k : ℕ) → k + 1 ≡ suc k
    up k = omega arith

-- one d more before is one more after
step : (d : ℕ) → 0 < d → (z : ℤ) → shr_z (z +ℤ pos d) d ≡ suc_ℤ (shr_z z d)
step d D (pos a) = ap pos (one_more a d D)
step d D (negsuc a) = differing (λ (z : ℤ). shr_z z d ≡ suc_ℤ (negsuc (a / d))) d (suc a)
    (λ l. ap (λ (k : ℕ). negsuc (k / d)) off ∙ sym (ap (λ (q : ℕ). suc_ℤ (negsuc q)) (ap (λ (n : ℕ). n / d) (back l) ∙ one_more (a - d) d D)))
    (λ l. ap pos (div-eq_of_lt (small D)) ∙ sym (ap (λ (q : ℕ). suc_ℤ (negsuc q)) (div-eq_of_lt l)))
  where
    off : suc a - suc d ≡ a - d
    off = omega arith

    back : d < suc a → a ≡ a - d + d
    back l = omega arith

    small : 0 < d → d - suc a < d
    small l = omega arith

-- rounded down in two steps
in_steps : (z : ℤ) (h k : ℕ) → shr_z z (h * k) ≡ shr_z (shr_z z h) k
in_steps (pos a) h k = ap pos (sym (div-div-eq-div-mul a h k))
in_steps (negsuc a) h k = ap negsuc (sym (div-div-eq-div-mul a h k))

-- h is a half of d = h * 2: z / d and a half, from twice z / d rounded down
pub half_up : (z : ℤ) (h : ℕ) → 0 < h → shr_z (z +ℤ pos h) (h * 2) ≡ shr_z (shr_z (z *ℤ pos 2) (h * 2) +ℤ pos 1) 2
half_up z h H =
    in_steps (z +ℤ pos h) h 2
    ∙ ap (λ (y : ℤ). shr_z y 2) (step h H z ∙ sym (+ℤ_one (shr_z z h)) ∙ ap (λ (y : ℤ). y +ℤ pos 1) (sym (scale z h 2 (lit< tt))))

-- ---- far shifts

-- a number below 2 ^ 63 in size, over any larger power
far : (z : ℤ) (d : ℕ) → mag z < 2 ^ 63 → 63 ≤ d → shr_z z (2 ^ d) ≡ shr_z z (2 ^ 63)
far (pos a) d h k = ap pos (div-eq_of_lt (lt_of_lt_of_le h (pow_mono k)) ∙ sym (div-eq_of_lt h))
far (negsuc a) d h k = ap negsuc (div-eq_of_lt (lt_of_lt_of_le h (pow_mono k)) ∙ sym (div-eq_of_lt h))

capped : (z : ℤ) (d : ℕ) → mag z < 2 ^ 63 → shr_z z (2 ^ min 63 d) ≡ shr_z z (2 ^ d)
capped z d h = elim (dec_le 63 d) [
  | yes k ↦ ap (λ (n : ℕ). shr_z z (2 ^ n)) (all k) ∙ sym (far z d h k)
  | no k ↦ ap (λ (n : ℕ). shr_z z (2 ^ n)) (own (lt_of_not-le k))
]
  where
    all : 63 ≤ d → min 63 d ≡ 63
    all k = omega arith

    own : d < 63 → min 63 d ≡ d
    own k = omega arith

-- ---- products with a sign

pub times_neg : (c n : ℕ) → pos c *ℤ neg_ℤ (pos n) ≡ neg_ℤ (pos (c * n))
times_neg c zero = ap pos (mul-zero c) ∙ ap (λ (k : ℕ). neg_ℤ (pos k)) (sym (mul-zero c))
times_neg c (suc n) = refl

pub neg_times : (n u : ℕ) → neg_ℤ (pos n) *ℤ pos u ≡ neg_ℤ (pos (n * u))
neg_times zero u = ap pos (zero-mul u) ∙ ap (λ (k : ℕ). neg_ℤ (pos k)) (sym (zero-mul u))
neg_times (suc n) u = refl

regroup : (s : Bool) (c q u : ℕ) → pos c *ℤ signed s (q * u) ≡ signed s (c * q) *ℤ pos u
regroup true c q u = times_neg c (q * u) ∙ ap (λ (k : ℕ). neg_ℤ (pos k)) (sym (mul_assoc c q u)) ∙ sym (neg_times (c * q) u)
regroup false c q u = ap pos (sym (mul_assoc c q u))

mag_signed : (s : Bool) (n : ℕ) {k : ℕ} → n < k → mag (signed s n) < k
mag_signed true zero h = h
mag_signed true (suc n) h = le_of_lt h
mag_signed false n h = h

-- ---- what the code shifts

pub few : {c q : ℕ} → c ≤ 100 → q < 2 ^ 53 → c * q < 2 ^ 63
few {c} {q} h k = go (c * q) (mul-le-mul_right q h)
  where
    go : (n : ℕ) → n ≤ 100 * q → n < 2 ^ 63
    go n l = omega arith

pub cut : (s : Bool) (c q j : ℕ) → c * q < 2 ^ 63 → j ≤ 1074 → shr_z (signed s (c * q)) (2 ^ min 63 (1074 - j)) ≡ shr_z (pos c *ℤ signed s (q * 2 ^ j)) (2 ^ 1074)
cut s c q j h k =
    let z = signed s (c * q) in
    let all : 1074 - j + j ≡ 1074 = omega arith in
    capped z (1074 - j) (mag_signed s (c * q) h)
    ∙ sym (scale z (2 ^ (1074 - j)) (2 ^ j) (pow_pos j))
    ∙ ap (λ (n : ℕ). shr_z (z *ℤ pos (2 ^ j)) n) (sym (pow-add 2 (1074 - j) j) ∙ ap (λ (n : ℕ). 2 ^ n) all)
    ∙ ap (λ (y : ℤ). shr_z y (2 ^ 1074)) (sym (regroup s c q (2 ^ j)))
