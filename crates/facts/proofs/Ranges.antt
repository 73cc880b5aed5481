-- What `any` and `find` over the numbers below n come to.
-- Assumes nothing.
use mathlib.Core.Path.{◌≡◌, sym, subst}
use mathlib.Core.Bool.{Bool, true, false}
use Prim.Native.Nat.{ℕ, ◌<◌}
use native.Mathlib.Nat.{zero-add}
use native.Mathlib.Omega.{arith}
use lib.Dec.{T}
use lib.ListN.{length}
use Rattle.std.specs.Prelude.{Option, Some, None, MatchOption}
use Rattle.std.specs.Bool.{MatchBool}
use Rattle.std.specs.List.{AllWithin, HoldsAt, range_with_len}
use Rattle.std.proofs.lemmas.List.FromFn.{length-range_with_len, get_or-range_with_len}
use Rattle.facts.specs.Least.{any}
use Rattle.facts.specs.Tests.{some_least}
use Rattle.facts.proofs.Bools.{passes}
use Rattle.facts.proofs.Least.{any_of, any_none, first_is}

-- some number passes, or none does
pub any_is : (f : ℕ → Bool) (n : ℕ) (r : Bool)
    → (let all = range_with_len 0 n in MatchBool r ((k : ℕ) × (k < length all) × HoldsAt (λ x. f x ≡ true) all k) (AllWithin (λ x. f x ≡ false) all 0 (length all))) → r ≡ any f n
any_is f n true (k, l, h) =
    let m : k < n = omega (arith, length-range_with_len 0 n) in
    passes _ (any_of f n k m (subst T (sym (rw (get_or-range_with_len 0 n k 0 m, zero-add) at (h 0))) tt))
any_is f n false h = any_none f n (λ i l x. subst T (rw (get_or-range_with_len 0 n i 0 l, zero-add) at (h i 0 (omega arith) (omega (arith, length-range_with_len 0 n)))) x)

-- the first that passes, or none
pub first_found : (f : ℕ → Bool) (n : ℕ) (r : Option ℕ)
    → (let all = range_with_len 0 n in MatchOption r (AllWithin (λ x. f x ≡ false) all 0 (length all)) (λ x. (f x ≡ true) × (i : ℕ) × (i < length all) × HoldsAt (λ y. y ≡ x) all i × AllWithin (λ x. f x ≡ false) all 0 i)) → r ≡ some_least f n
first_found f n None h = first_is f n None (λ k l. rw (get_or-range_with_len 0 n k 0 l, zero-add) at (h k 0 (omega arith) (omega (arith, length-range_with_len 0 n))))
first_found f n (Some x) (y, i, l, e, h) =
    let m : i < n = omega (arith, length-range_with_len 0 n) in
    let at : i ≡ x = rw (get_or-range_with_len 0 n i 0 m, zero-add) at (e 0) in
    first_is f n (Some x) (omega arith, y, λ k b. rw (get_or-range_with_len 0 n k 0 (omega arith), zero-add) at (h k 0 (omega arith) (omega arith)))
