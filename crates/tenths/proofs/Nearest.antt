-- Adding a half and rounding down gives the nearest whole number, halves going up, and there is only one: so `tenths` is the rule. Assumes nothing.
use mathlib.Core.Path.{◌≡◌, sym, ap, ◌∙◌, subst}
use Prim.Native.Nat.{ℕ, zero, suc, ◌+◌, ◌*◌, ◌≤◌, ◌<◌}
use native.Mathlib.Nat.{le_trans, le_of_lt, le_of_eq, le_antisymm, lt_irrefl, lt_of_lt_of_le, suc-mul}
use native.Mathlib.Omega.{arith}
use lib.Dec.{lit≤}
use lib.IntN.{ℤ, pos, negsuc, neg_ℤ, nat_abs, ◌+ℤ◌, ◌-ℤ◌, ◌*ℤ◌, +ℤ_idr, +ℤ_assoc, +ℤ_comm, +ℤ-neg_ℤ_cancel, -ℤ-+ℤ_cancel, neg_ℤ-neg_ℤ, zero-*ℤ}
use lib.Signed.{mag, ◌≤ℤ◌, ≤ℤ_refl, nat_abs-le}
use lib.Pow.{pow_pos}
use lib.Ieee.{Float}
use Rattle.tenths.specs.declared.Measured.{Measured}
use Rattle.tenths.specs.Tenths.{one, half_one, far_from, IsNearest, AreTenths, nearest, tenfold, tenths, measured}
use Rattle.tenths.specs.Bits.{floor_times}
use Rattle.tenths.proofs.Whole.{antisym, lower, higher, moved, far_up, far_down, within}
use Rattle.tenths.proofs.Floor.{rest, rest_lt, rest_is, shr_mono}

-- ---- what lies less than a half above t, or at most a half below, has t as its nearest: of n ones, 2 t - 1 <= 2 n < 2 t + 1

twice_or_more : (k h : ℕ) {d : ℕ} → h + h ≤ d → h + h ≤ suc k * d
twice_or_more k h {d} m = subst (λ (e : ℕ). h + h ≤ e) (sym (suc-mul k d)) (omega (arith, m))

-- r is what n has beyond t ones, and z is how far another whole number lies above t: it is no nearer
no_nearer : (r z : ℤ) {h d : ℕ} → mag r < h → h + h ≤ d → nat_abs r ≤ nat_abs (r -ℤ z *ℤ pos d)
no_nearer r (pos zero) {h} {d} l m = le_of_eq (ap nat_abs (sym (ap (λ (y : ℤ). r -ℤ y) (zero-*ℤ (pos d)) ∙ +ℤ_idr r)))
no_nearer r (pos (suc k)) {h} {d} l m = le_trans (nat_abs-le r l) (le_of_lt (far_down r (suc k * d) l (twice_or_more k h m)))
no_nearer r (negsuc k) {h} {d} l m = subst (λ (y : ℤ). nat_abs r ≤ nat_abs (r +ℤ y)) (sym (neg_ℤ-neg_ℤ (pos (suc k * d)))) (le_trans (nat_abs-le r l) (far_up r (suc k * d) l (twice_or_more k h m)))

-- and as near only where it is not above
no_higher : (r t z : ℤ) {h d : ℕ} → mag r < h → h + h ≤ d → nat_abs (r -ℤ z *ℤ pos d) ≡ nat_abs r → (t +ℤ z) ≤ℤ t
no_higher r t (pos zero) l m e = subst (λ (y : ℤ). y ≤ℤ t) (sym (+ℤ_idr t)) (≤ℤ_refl t)
no_higher r t (pos (suc k)) {h} {d} l m e = absurd (lt_irrefl h (lt_of_lt_of_le (far_down r (suc k * d) l (twice_or_more k h m)) (le_trans (le_of_eq e) (nat_abs-le r l))))
no_higher r t (negsuc k) l m e = lower t k

-- u as t and how far it lies above
above : (t u : ℤ) → t +ℤ (u -ℤ t) ≡ u
above t u = +ℤ_comm t (u -ℤ t) ∙ -ℤ-+ℤ_cancel u t

halves : half_one + half_one ≤ one
halves = lit≤ tt

pub within_nearest : (n t : ℤ) → mag (n -ℤ t *ℤ pos one) < half_one → IsNearest n t
within_nearest n t l = record {
  none_nearer = λ u. subst (λ (k : ℕ). far_from n t ≤ k) (sym (from u)) (no_nearer r (u -ℤ t) l halves);
  none_higher = λ u e. subst (λ (y : ℤ). y ≤ℤ t) (above t u) (no_higher r t (u -ℤ t) l halves (sym (from u) ∙ e));
}
  where
    r : ℤ
    r = n -ℤ t *ℤ pos one

    from : (u : ℤ) → far_from n u ≡ nat_abs (r -ℤ (u -ℤ t) *ℤ pos one)
    from u = ap (λ (y : ℤ). far_from n y) (sym (above t u)) ∙ ap nat_abs (moved n t (u -ℤ t) (pos one))

-- ---- a half more, rounded down, is there

-- a number less a part of it leaves the other part
left : (a b : ℤ) → a +ℤ b -ℤ a ≡ b
left a b = ap (λ (y : ℤ). y -ℤ a) (+ℤ_comm a b) ∙ +ℤ-neg_ℤ_cancel b a

-- where n + h is a whole q and k over, n is q and k - h over
over : (n h q k : ℤ) → n +ℤ h ≡ q +ℤ k → n -ℤ q ≡ k -ℤ h
over n h q k e =
    sym (+ℤ-neg_ℤ_cancel (n -ℤ q) h)
    ∙ ap (λ (y : ℤ). y -ℤ h) (+ℤ_assoc n (neg_ℤ q) h ∙ ap (λ (y : ℤ). n +ℤ y) (+ℤ_comm (neg_ℤ q) h) ∙ sym (+ℤ_assoc n h (neg_ℤ q)) ∙ ap (λ (y : ℤ). y -ℤ q) e ∙ left q k)

nearest_within : (n : ℤ) → mag (n -ℤ nearest n *ℤ pos one) < half_one
nearest_within n =
    let m = n +ℤ pos half_one in
    subst (λ (z : ℤ). mag z < half_one) (sym (over n (pos half_one) (nearest n *ℤ pos one) (pos (rest m one)) (rest_is m one (pow_pos 1074))))
    (within half_one (pow_pos 1073) (rest_lt m (pow_pos 1074)))

pub nearest_is : (n : ℤ) → IsNearest n (nearest n)
nearest_is n = within_nearest n (nearest n) (nearest_within n)

-- there is one such number
pub nearest_only : {n t u : ℤ} → IsNearest n t → IsNearest n u → t ≡ u
nearest_only {n} {t} {u} p q =
    let same : far_from n t ≡ far_from n u = le_antisymm (p.none_nearer u) (q.none_nearer t) in
    antisym t u (q.none_higher t same) (p.none_higher u (sym same))

-- it lies there, and nothing else does
pub nearest_lies : (n t : ℤ) → IsNearest n t → mag (n -ℤ t *ℤ pos one) < half_one
nearest_lies n t p = subst (λ (u : ℤ). mag (n -ℤ u *ℤ pos one) < half_one) (nearest_only (nearest_is n) p) (nearest_within n)

-- what is computed are the tenths
pub tenths_are : (x : Float) → AreTenths x (tenths x)
unfolding tenths
tenths_are x = nearest_is (tenfold x)

-- and no other number is
pub tenths_only : (x : Float) (t : ℤ) → AreTenths x t → t ≡ tenths x
tenths_only x t h = nearest_only h (tenths_are x)

-- they are not below what they were before, rounded down: a mark that was reached still is
pub reached_still : (x : Float) → floor_times 10 x ≤ℤ tenths x
unfolding tenths floor_times
reached_still x = shr_mono (tenfold x) (tenfold x +ℤ pos half_one) one (pow_pos 1074) (higher (tenfold x) half_one)

-- two answers that keep the promise of `measure` are equal
pub measure_only : (x : Float) (a b : Measured) → a ≡ measured x → b ≡ measured x → a ≡ b
measure_only x a b p q = p ∙ sym q
