-- How long lists put one behind another are.
-- Assumes nothing.
use mathlib.Core.Path.{◌≡◌, refl, ap, ◌∙◌, fun_ext}
use mathlib.Core.Logic.{◌⊎◌, inl, inr}
use mathlib.Core.List.{List, ◌++◌}
use Prim.Native.Nat.{ℕ, zero, suc, ◌+◌, ◌≤◌, ◌<◌}
use native.Mathlib.Omega.{arith}
use lib.ListN.{length, length-append}
use Rattle.facts.proofs.Bools.{or_at}
use Rattle.rules.specs.Pairs.{joined}
use Rattle.rules.specs.Sums.{sum}

pub length_in_order : (f : ℕ → List ℕ) (n : ℕ) → length (joined f n) ≡ sum (λ i. length (f i)) n
unfolding joined sum
length_in_order f zero = refl
length_in_order f (suc k) = length-append (joined f k) (f k) ∙ omega (arith, length_in_order f k)

-- of rows of lists
pub length_in_rows : (f : ℕ → ℕ → List ℕ) (m n : ℕ) → length (joined (λ a. joined (f a) n) m) ≡ sum (λ a. sum (λ b. length (f a b)) n) m
length_in_rows f m n = length_in_order (λ a. joined (f a) n) m ∙ ap (λ (g : ℕ → ℕ). sum g m) (fun_ext (λ a. length_in_order (f a) n))

-- a longer part of the list is not shorter
pub in_order_mono : (f : ℕ → List ℕ) (k n : ℕ) → k ≤ n → length (joined f k) ≤ length (joined f n)
unfolding joined
in_order_mono f k zero l = let e : k ≡ 0 = omega arith in rw e (omega arith)
in_order_mono f k (suc n) l = go (or_at k (suc n) l) (λ m. in_order_mono f k n m)
  where
    go : (k < suc n) ⊎ (k ≡ suc n) → (k ≤ n → length (joined f k) ≤ length (joined f n)) → length (joined f k) ≤ length (joined f n ++ f n)
    go (inl m) r = omega (arith, r (omega arith), length-append (joined f n) (f n))
    go (inr e) r = rw e (omega arith)

-- an entry of the list has its room in the whole
pub entry_room : (f : ℕ → List ℕ) (k n : ℕ) → k < n → length (joined f k) + length (f k) ≤ length (joined f n)
unfolding joined
entry_room f k n l = omega (arith, in_order_mono f (suc k) n l, length-append (joined f k) (f k))

-- the same as the loops see it: the place `next` stands behind the entries below k, and entry k is to stand there
pub next_room : (f : ℕ → List ℕ) (k n : ℕ) (ys : List ℕ) (at next room : ℕ) → k < n → ys ≡ f k → next ≡ at + length (joined f k) → at + length (joined f n) ≤ room
    → next + length ys ≤ room
next_room f k n ys at next room l e h m = rw e (omega (arith, entry_room f k n l))
