-- Laws of whole numbers of either sign that the tenths rest on: the order, and how far a number lies from one that is moved. Assumes nothing.
use mathlib.Core.Path.{◌≡◌, sym, ap, ◌∙◌}
use mathlib.Core.Bool.{Bool, true, false, not, cond}
use Prim.Native.Nat.{ℕ, zero, suc, ◌+◌, ◌-◌, ◌≤◌, ◌<◌}
use native.Mathlib.Nat.{le_antisymm}
use native.Mathlib.Omega.{arith}
use lib.Dec.{T, ltb, leb→le, le→leb, ltb→lt, nltb→le}
use lib.IntN.{ℤ, pos, negsuc, neg_ℤ, suc_ℤ, pred_ℤ, nat_abs, sub_ℕ, ◌+ℤ◌, ◌-ℤ◌, ◌*ℤ◌, +ℤ-suc_ℤ, +ℤ-pred_ℤ, +ℤ_idr, +ℤ_assoc, zero-*ℤ, suc_ℤ-*ℤ, pred_ℤ-*ℤ, neg_ℤ-+ℤ}
use lib.Signed.{mag, ◌≤ℤ◌, le_z_yes}

-- ---- the order

pub antisym : (t u : ℤ) → t ≤ℤ u → u ≤ℤ t → t ≡ u
antisym (pos a) (pos b) h k = ap pos (le_antisymm (leb→le a b h.le) (leb→le b a k.le))
antisym (pos a) (negsuc b) h k = absurd h.le
antisym (negsuc a) (pos b) h k = absurd k.le
antisym (negsuc a) (negsuc b) h k = ap negsuc (le_antisymm (leb→le a b k.le) (leb→le b a h.le))

-- ---- a difference of sizes, by which of the two is the larger

pub differing : (P : ℤ → Type 0) (a b : ℕ) → (a < b → P (negsuc (b - suc a))) → (b ≤ a → P (pos (a - b))) → P (sub_ℕ a b)
differing P a b less more = go (ltb a b) (ltb→lt a b) (nltb→le a b)
  where
    go : (c : Bool) → (T c → a < b) → (T (not c) → b ≤ a) → P (cond c (negsuc (b - suc a)) (pos (a - b)))
    go true l m = less (l tt)
    go false l m = more (m tt)

-- what is lower by something is not above
pub lower : (t : ℤ) (k : ℕ) → (t +ℤ negsuc k) ≤ℤ t
lower (pos a) k = differing (λ (z : ℤ). z ≤ℤ pos a) a (suc k) (λ l. le_z_yes tt) (λ l. le_z_yes (le→leb (a - suc k) a (omega arith)))
lower (negsuc a) k = le_z_yes (le→leb a (suc (a + k)) (omega arith))

-- and what is higher by something is not below
pub higher : (t : ℤ) (k : ℕ) → t ≤ℤ (t +ℤ pos k)
higher (pos a) k = le_z_yes (le→leb a (a + k) (omega arith))
higher (negsuc a) k = differing (λ (z : ℤ). negsuc a ≤ℤ z) k (suc a) (λ l. le_z_yes (le→leb (suc a - suc k) a (omega arith))) (λ l. le_z_yes tt)

-- ---- sums

plus_zero : (t k : ℤ) → (t +ℤ pos zero) *ℤ k ≡ t *ℤ k +ℤ pos zero *ℤ k
plus_zero t k = ap (λ (y : ℤ). y *ℤ k) (+ℤ_idr t) ∙ sym (ap (λ (y : ℤ). t *ℤ k +ℤ y) (zero-*ℤ k) ∙ +ℤ_idr (t *ℤ k))

plus_suc : (t z k : ℤ) → (t +ℤ z) *ℤ k ≡ t *ℤ k +ℤ z *ℤ k → (t +ℤ suc_ℤ z) *ℤ k ≡ t *ℤ k +ℤ suc_ℤ z *ℤ k
plus_suc t z k e =
    ap (λ (y : ℤ). y *ℤ k) (+ℤ-suc_ℤ t z)
    ∙ suc_ℤ-*ℤ (t +ℤ z) k
    ∙ ap (λ (y : ℤ). y +ℤ k) e
    ∙ +ℤ_assoc (t *ℤ k) (z *ℤ k) k
    ∙ ap (λ (y : ℤ). t *ℤ k +ℤ y) (sym (suc_ℤ-*ℤ z k))

plus_pred : (t z k : ℤ) → (t +ℤ z) *ℤ k ≡ t *ℤ k +ℤ z *ℤ k → (t +ℤ pred_ℤ z) *ℤ k ≡ t *ℤ k +ℤ pred_ℤ z *ℤ k
plus_pred t z k e =
    ap (λ (y : ℤ). y *ℤ k) (+ℤ-pred_ℤ t z)
    ∙ pred_ℤ-*ℤ (t +ℤ z) k
    ∙ ap (λ (y : ℤ). y -ℤ k) e
    ∙ +ℤ_assoc (t *ℤ k) (z *ℤ k) (neg_ℤ k)
    ∙ ap (λ (y : ℤ). t *ℤ k +ℤ y) (sym (pred_ℤ-*ℤ z k))

-- a product with a sum is the sum of the products
plus_times : (t z k : ℤ) → (t +ℤ z) *ℤ k ≡ t *ℤ k +ℤ z *ℤ k
plus_times t (pos zero) k = plus_zero t k
plus_times t (pos (suc n)) k = plus_suc t (pos n) k (plus_times t (pos n) k)
plus_times t (negsuc zero) k = plus_pred t (pos zero) k (plus_zero t k)
plus_times t (negsuc (suc n)) k = plus_pred t (negsuc n) k (plus_times t (negsuc n) k)

-- what is left of n beyond t + z is what is left beyond t, less z
pub moved : (n t z k : ℤ) → n -ℤ (t +ℤ z) *ℤ k ≡ n -ℤ t *ℤ k -ℤ z *ℤ k
moved n t z k =
    ap (λ (y : ℤ). n -ℤ y) (plus_times t z k)
    ∙ ap (λ (y : ℤ). n +ℤ y) (neg_ℤ-+ℤ (t *ℤ k) (z *ℤ k))
    ∙ sym (+ℤ_assoc n (neg_ℤ (t *ℤ k)) (neg_ℤ (z *ℤ k)))

-- ---- what lies within h of zero, -h itself but not h, lies at least h from it when moved up by two h or more, and more than h when moved down

pub far_up : (r : ℤ) (e : ℕ) {h : ℕ} → mag r < h → h + h ≤ e → h ≤ nat_abs (r +ℤ pos e)
far_up (pos a) e l m = omega arith
far_up (negsuc a) e {h} l m = differing (λ (z : ℤ). h ≤ nat_abs z) e (suc a) (λ k. omega arith) (λ k. omega arith)

pub far_down : (r : ℤ) (e : ℕ) {h : ℕ} → mag r < h → h + h ≤ e → h < nat_abs (r -ℤ pos e)
far_down r zero l m = omega arith
far_down (pos a) (suc e) {h} l m = differing (λ (z : ℤ). h < nat_abs z) a (suc e) (λ k. omega arith) (λ k. omega arith)
far_down (negsuc a) (suc e) l m = omega arith

-- less than two h, taken down by h, lies within h of zero
pub within : (h : ℕ) {k : ℕ} → 0 < h → k < h + h → mag (pos k -ℤ pos h) < h
within zero l m = absurd (none l)
  where
    none : (l : 0 < 0) → ⊥
    none l = omega arith
within (suc h) {k} l m = differing (λ (z : ℤ). mag z < suc h) k (suc h) (λ n. omega arith) (λ n. omega arith)

-- ---- k more is at most k larger in size

pub mag_more : (z : ℤ) (k : ℕ) → mag (z +ℤ pos k) ≤ mag z + k
mag_more (pos n) k = omega arith
mag_more (negsuc n) k = differing (λ (z : ℤ). mag z ≤ n + k) k (suc n) (λ l. omega arith) (λ l. omega arith)
