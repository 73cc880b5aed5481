-- What is said on refusal: a number, a second number and a place. Checks are one list, in the order of their numbers.
-- Assumes nothing.
use Rattle.std.specs.Prelude.{◌≡◌, ◌⊎◌, Bool, true, false, cond, ℕ}
use Rattle.facts.specs.Least.{least, any}

-- what is said; on success all three are 0
pub record Verdict : Type 0 where
  pub number : ℕ
  pub second : ℕ
  pub place : ℕ

-- success
abbrev pub accepted : Verdict
accepted = record { number = 0; second = 0; place = 0 }

-- refused with a number and a second number at a place
abbrev pub refused_for : (number second place : ℕ) → Verdict
refused_for n x k = record { number = n; second = x; place = k }

-- refused with a number at a place; the second number is 0
abbrev pub refused : (number place : ℕ) → Verdict
refused n k = refused_for n 0 k

-- refuse where the test passes, else go on to the next check
unfoldable pub refuse_if : Bool → (number place : ℕ) → Verdict → Verdict
refuse_if true n k next = refused n k
refuse_if false n k next = next

-- refuse at the lowest place below m that passes the test, with the second number of that place, else go on to the next check
unfoldable pub refuse_for : (ℕ → Bool) → (second : ℕ → ℕ) → (m number : ℕ) → Verdict → Verdict
refuse_for f x m n next = cond (any f m) (refused_for n (x (least f m)) (least f m)) next

-- the same with the second number 0
unfoldable pub refuse_at : (ℕ → Bool) → (m number : ℕ) → Verdict → Verdict
refuse_at f m n next = refuse_for f (λ k. 0) m n next

-- behind the checks: accepted, and then A; or refused with the number at place 0, and then N
abbrev pub Ruled : Verdict → (A : Type 0) → (number : ℕ) → (N : Type 0) → Type 0
Ruled v A n N = ((v ≡ accepted) × A) ⊎ ((v ≡ refused n 0) × N)
