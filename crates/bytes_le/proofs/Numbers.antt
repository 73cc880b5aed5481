-- Numbers in bytes, over any size.
-- Assumes nothing.
use mathlib.Core.Path.{◌≡◌, refl, sym, ap, ap₂, ◌∙◌}
use mathlib.Core.List.{List, [], ◌∷◌, ◌++◌}
use Prim.Native.Nat.{ℕ, zero, suc, ◌+◌, ◌*◌, ◌/◌, ◌%◌, ◌^◌, ◌≤◌, ◌<◌}
use native.Mathlib.Nat.{suc-add, pow-suc, pow-le-pow_right, div-one, div-div-eq-div-mul, add-suc, add-zero}
use native.Mathlib.Numerals.{add-one}
use native.Mathlib.Omega.{arith}
use lib.ListN.{length, get_or}
use Rattle.bytes_le.specs.Little.{little, number}
use Rattle.bytes_le.specs.Steps.{Bytes}

-- ── reading ──

-- one byte more, in front of those read
pub number_more : (k : ℕ) (xs : List ℕ) (at v b : ℕ) → v ≡ number k xs (suc at) → b ≡ get_or xs at 0 → v * 256 + b ≡ number (k + 1) xs at
unfolding number
number_more k xs at v b e h = let n : number (k + 1) xs at ≡ get_or xs at 0 + 256 * number k xs (suc at) = ap (λ (m : ℕ). number m xs at) (add-one k) in omega arith

-- so many bytes hold it still
pub holds_more : (k v b : ℕ) → v < 256 ^ k → b < 256 → v * 256 + b < 256 ^ (k + 1)
holds_more k v b l m = let e : 256 ^ (k + 1) ≡ 256 ^ k * 256 = ap (λ (n : ℕ). 256 ^ n) (add-one k) ∙ pow-suc 256 k in omega arith

pub within_eight : (k v : ℕ) → k ≤ 8 → v < 256 ^ k → v < 2 ^ 64
within_eight k v l h = let m : 256 ^ k ≤ 256 ^ 8 = pow-le-pow_right (omega arith) l in omega arith

pub number_lt : (k : ℕ) (xs : List ℕ) (at : ℕ) → Bytes xs → number k xs at < 256 ^ k
unfolding number
number_lt zero xs at b = omega arith
number_lt (suc k) xs at b = omega (arith, number_lt k xs (suc at) b, b at, pow-suc 256 k)

-- it depends on its own bytes alone
pub number_same : (k : ℕ) (xs ys : List ℕ) (at to : ℕ) → ((i : ℕ) → i < k → get_or xs (at + i) 0 ≡ get_or ys (to + i) 0) → number k xs at ≡ number k ys to
unfolding number
number_same zero xs ys at to h = refl
number_same (suc k) xs ys at to h =
    ap₂ (λ (b n : ℕ). b + 256 * n) first (number_same k xs ys (suc at) (suc to) (λ i l. moved i (h (suc i) (omega arith))))
  where
    first : get_or xs at 0 ≡ get_or ys to 0
    first = ap (λ (n : ℕ). get_or xs n 0) (sym (add-zero at)) ∙ h 0 (omega arith) ∙ ap (λ (n : ℕ). get_or ys n 0) (add-zero to)

    moved : (i : ℕ) → get_or xs (at + suc i) 0 ≡ get_or ys (to + suc i) 0 → get_or xs (suc at + i) 0 ≡ get_or ys (suc to + i) 0
    moved i e = let p : suc at + i ≡ at + suc i = omega arith in let q : suc to + i ≡ to + suc i = omega arith in rw (p, q) e

-- ── writing ──

pub length_little : (k v : ℕ) → length (little k v) ≡ k
unfolding little
length_little zero v = refl
length_little (suc k) v = ap suc (length_little k (v / 256))

-- one byte more, behind those written
pub little_more : (k v : ℕ) → little (suc k) v ≡ little k v ++ (v / 256 ^ k % 256 ∷ [])
unfolding little
little_more zero v = ap (λ (n : ℕ). n % 256 ∷ []) (sym (div-one v))
little_more (suc k) v =
    let e : v / 256 / 256 ^ k ≡ v / 256 ^ suc k = div-div-eq-div-mul v 256 (256 ^ k) ∙ ap (λ (n : ℕ). v / n) (omega (arith, pow-suc 256 k)) in
    ap (λ (t : List ℕ). v % 256 ∷ t) (little_more k (v / 256) ∙ ap (λ (n : ℕ). little k (v / 256) ++ (n % 256 ∷ [])) e)

pub left_more : (k v : ℕ) → v / 256 ^ k / 256 ≡ v / 256 ^ (k + 1)
left_more k v = div-div-eq-div-mul v (256 ^ k) 256 ∙ ap (λ (n : ℕ). v / n) (sym (ap (λ (n : ℕ). 256 ^ n) (add-one k) ∙ pow-suc 256 k))

-- ── there and back ──

number_cons : (k b : ℕ) (xs : List ℕ) (at : ℕ) → number k (b ∷ xs) (suc at) ≡ number k xs at
number_cons k b xs at = number_same k (b ∷ xs) xs (suc at) at (λ i l. ap (λ (n : ℕ). get_or (b ∷ xs) n 0) (suc-add at i))

pub number_little : (k v : ℕ) → v < 256 ^ k → number k (little k v) 0 ≡ v
unfolding number little
number_little zero v h = omega arith
number_little (suc k) v h =
    let e : number k (v % 256 ∷ little k (v / 256)) 1 ≡ v / 256 = number_cons k (v % 256) (little k (v / 256)) 0 ∙ number_little k (v / 256) (omega (arith, pow-suc 256 k)) in
    omega arith

-- ── zeros ──

-- a number is 0 exactly where each of its bytes is
pub zeros_number : (k : ℕ) (xs : List ℕ) (at : ℕ) → ((i : ℕ) → i < k → get_or xs (at + i) 0 ≡ 0) → number k xs at ≡ 0
unfolding number
zeros_number zero xs at h = refl
zeros_number (suc k) xs at h =
    let b : get_or xs at 0 ≡ 0 = ap (λ (n : ℕ). get_or xs n 0) (sym (add-zero at)) ∙ h 0 (omega arith) in
    let r : number k xs (suc at) ≡ 0 = zeros_number k xs (suc at) (λ i l. ap (λ (n : ℕ). get_or xs n 0) (suc-add at i ∙ sym (add-suc at i)) ∙ h (suc i) (omega arith)) in
    omega arith

pub number_zeros : (k : ℕ) (xs : List ℕ) (at : ℕ) → number k xs at ≡ 0 → (i : ℕ) → i < k → get_or xs (at + i) 0 ≡ 0
unfolding number
number_zeros zero xs at e i l = absurd (omega arith)
number_zeros (suc k) xs at e zero l = ap (λ (n : ℕ). get_or xs n 0) (add-zero at) ∙ omega arith
number_zeros (suc k) xs at e (suc i) l = ap (λ (n : ℕ). get_or xs n 0) (add-suc at i ∙ sym (suc-add at i)) ∙ number_zeros k xs (suc at) (omega arith) i (omega arith)
