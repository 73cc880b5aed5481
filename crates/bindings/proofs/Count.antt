-- A pair binds one way only, so n jobs have at most n (n - 1) / 2 binding pairs, and 552 bytes serve 24 jobs.
-- Assumes nothing.
use mathlib.Core.Path.{◌≡◌, refl, sym, subst}
use mathlib.Core.Bool.{Bool, true, false}
use Prim.Native.Nat.{ℕ, zero, suc, ◌+◌, ◌*◌, ◌≤◌, ◌<◌}
use native.Mathlib.Nat.{mul-suc, suc-mul, mul-le-mul_right}
use native.Mathlib.Omega.{arith}
use lib.Dec.{T}
use lib.ListN.{length}
use Rattle.rules.specs.Table.{Problem}
use Rattle.rules.specs.Premises.{InOrder}
use Rattle.rules.specs.Plans.{Plan}
use Rattle.rules.specs.Pairs.{binds, pair_if, pair_bytes}
use Rattle.rules.proofs.Sums.{sum_le, sum_of, sum_add}
use Rattle.rules.proofs.Joined.{length_in_rows}
use Rattle.rules.specs.Sums.{sum}
use Rattle.rules.proofs.Named.{binds_once}

-- ── sums ──

-- what stands in a square of n by n places, where two places that mirror each other hold 2 at most, and those in the middle nothing
square : (t : ℕ → ℕ → ℕ) (n : ℕ) → ((a b : ℕ) → a < n → b < n → t a b + t b a ≤ 2) → ((a : ℕ) → a < n → t a a ≡ 0) → sum (λ a. sum (t a) n) n + n ≤ n * n
unfolding sum
square t zero once self = omega arith
square t (suc k) once self =
    let inner : sum (λ a. sum (t a) k) k + k ≤ k * k = square t k (λ a b l m. once a b (omega arith) (omega arith)) (λ a l. self a (omega arith)) in
    let edge : sum (λ a. t k a + t a k) k ≤ sum (λ a. 2) k = sum_le (λ a. t k a + t a k) (λ a. 2) k (λ a l. once k a (omega arith) (omega arith)) in
    omega (arith, self k (omega arith), sum_add (λ a. t a k) (λ a. sum (t a) k) k, sum_add (t k) (λ a. t a k) k, sum_of 2 k, suc-mul k (suc k), mul-suc k k)

-- ── pairs ──

one_way : (b c : Bool) (x y z w : ℕ) → (T b → T c → ⊥) → length (pair_if b x y) + length (pair_if c z w) ≤ 2
unfolding pair_if
one_way true true x y z w h = absurd (h tt tt)
one_way true false x y z w h = omega arith
one_way false true x y z w h = omega arith
one_way false false x y z w h = omega arith

no_self : (b : Bool) (x y : ℕ) → (T b → T b → ⊥) → length (pair_if b x y) ≡ 0
unfolding pair_if
no_self true x y h = absurd (h tt tt)
no_self false x y h = refl

-- n jobs have at most n (n - 1) / 2 binding pairs, of two bytes each
pub pairs_most : (P : Problem) (s : Plan) → InOrder P → length (pair_bytes P s) + P.count ≤ P.count * P.count
unfolding pair_bytes
pairs_most P s ok =
    rw (length_in_rows (λ a b. pair_if (binds P s a b) a b) P.count P.count)
    (square (λ a b. length (pair_if (binds P s a b) a b)) P.count (λ a b l m. one_way (binds P s a b) (binds P s b a) a b b a (binds_once P s ok a b l m))
    (λ a l. no_self (binds P s a a) a a (binds_once P s ok a a l l)))

-- so 552 bytes always serve
pub pairs_room : (P : Problem) (s : Plan) → InOrder P → P.count ≤ 24 → length (pair_bytes P s) ≤ 552
pairs_room P s ok l = omega (arith, pairs_most P s ok, mul-le-mul_right P.count l)

pub pair_room : (b : Bool) (x y at n : ℕ) → b ≡ true → at + length (pair_if b x y) ≤ n → at + 2 ≤ n
unfolding pair_if
pair_room true x y at n e h = h
pair_room false x y at n e h = absurd (subst T (sym e) tt)
