-- How long the lines are: the jobs of a plan take a line each, however many starts are looked at.
-- Assumes nothing.
use mathlib.Core.Path.{◌≡◌, refl, ap}
use mathlib.Core.Bool.{Bool, true, false}
use mathlib.Core.List.{List, [], ◌∷◌, ◌++◌}
use Prim.Native.Nat.{ℕ, zero, suc, ◌+◌, ◌*◌, ◌/◌, ◌%◌, ◌≤◌, ◌<◌}
use native.Mathlib.Decide.{ℕ_discrete, dec_lt}
use native.Mathlib.Omega.{arith}
use borrow.Author.Tests.{ne_eqb}
use lib.Dec.{eqb, leb}
use lib.ListN.{length, length-append}
use Rattle.rules.specs.Plans.{Plan}
use Rattle.rules.specs.Pairs.{joined}
use Rattle.rules.specs.Sums.{sum}
use Rattle.rules.proofs.Sums.{sum_le, sum_of, swapped}
use Rattle.rules.proofs.Joined.{length_in_rows}
use Rattle.lines.specs.Lines.{text_if, digit, decimal, number_then, job_line, starting_at}
use Rattle.lines.proofs.Laws.{text_no, digit_none}

text_fits : (b : Bool) (text : List ℕ) → length (text_if b text) ≤ length text
unfolding text_if
text_fits true text = omega arith
text_fits false text = omega arith

-- ── numbers ──

digit_fits : (n u : ℕ) → length (digit n u) ≤ 1
digit_fits n u = text_fits (leb u n) ((48 + n / u % 10) ∷ [])

decimal_length : (n : ℕ) → length (decimal n) ≡ length (digit n 10000) + length (digit n 1000) + length (digit n 100) + length (digit n 10) + 1
unfolding decimal
decimal_length n = omega (
  arith,
  length-append (digit n 10000) (digit n 1000 ++ (digit n 100 ++ (digit n 10 ++ ((48 + n % 10) ∷ [])))),
  length-append (digit n 1000) (digit n 100 ++ (digit n 10 ++ ((48 + n % 10) ∷ []))),
  length-append (digit n 100) (digit n 10 ++ ((48 + n % 10) ∷ [])),
  length-append (digit n 10) ((48 + n % 10) ∷ []),
)

decimal_fits : (n : ℕ) → length (decimal n) ≤ 5
decimal_fits n = omega (arith, decimal_length n, digit_fits n 10000, digit_fits n 1000, digit_fits n 100, digit_fits n 10)

pub decimal_some : (n : ℕ) → 1 ≤ length (decimal n)
decimal_some n = omega (arith, decimal_length n)

-- a number below 10,000 has four digits at most
pub below_10000 : (n : ℕ) → n < 10000 → length (decimal n) ≤ 4
below_10000 n l = omega (arith, decimal_length n, ap length (digit_none n 10000 l), digit_fits n 1000, digit_fits n 100, digit_fits n 10)

-- and one below 1,000 three
pub below_1000 : (n : ℕ) → n < 1000 → length (decimal n) ≤ 3
below_1000 n l = omega (arith, decimal_length n, ap length (digit_none n 10000 (omega arith)), ap length (digit_none n 1000 l), digit_fits n 100, digit_fits n 10)

then_fits : (n c : ℕ) → length (number_then n c) ≤ 6
then_fits n c = omega (arith, decimal_fits n, length-append (decimal n) (c ∷ []))

pub line_fits : (t e j : ℕ) → length (job_line t e j) ≤ 18
line_fits t e j = omega (arith, then_fits t 32, then_fits e 32, then_fits j 10, length-append (number_then t 32) (number_then e 32 ++ number_then j 10), length-append (number_then e 32) (number_then j 10))

-- ── one line a job ──

-- no start before x is x
none_yet : (x : ℕ) (line : List ℕ) (n : ℕ) → n ≤ x → sum (λ t. length (text_if (eqb x t) line)) n ≡ 0
unfolding sum
none_yet x line zero l = refl
none_yet x line (suc k) l = let z : length (text_if (eqb x k) line) ≡ 0 = ap length (text_no (eqb x k) line (ne_eqb x k (λ e. omega arith))) in omega (arith, none_yet x line k (omega arith))

-- of all starts one at most is x
once : (x : ℕ) (line : List ℕ) (n : ℕ) → sum (λ t. length (text_if (eqb x t) line)) n ≤ length line
unfolding sum
once x line zero = omega arith
once x line (suc k) = go (ℕ_discrete x k) (once x line k)
  where
    go : Dec (x ≡ k) → sum (λ t. length (text_if (eqb x t) line)) k ≤ length line → length (text_if (eqb x k) line) + sum (λ t. length (text_if (eqb x t) line)) k ≤ length line
    go (yes e) r = omega (arith, text_fits (eqb x k) line, none_yet x line k (omega arith))
    go (no n) r = let z : length (text_if (eqb x k) line) ≡ 0 = ap length (text_no (eqb x k) line (ne_eqb x k n)) in omega arith

-- where the jobs that start before k have lines of w letters at most, the text of n jobs has w times n at most
pub jobs_fit : (line : ℕ → List ℕ) (s : Plan) (n w k : ℕ) → ((j : ℕ) → j < n → s j < k → length (line j) ≤ w) → length (joined (starting_at line s n) k) ≤ w * n
jobs_fit line s n w k h =
    let g : ℕ → ℕ → ℕ = λ t j. length (text_if (eqb (s j) t) (line j)) in
    omega (
      arith,
      length_in_rows (λ t j. text_if (eqb (s j) t) (line j)) k n,
      swapped g k n,
      sum_le (λ j. sum (λ t. g t j) k) (λ j. w) n (λ j l. go j l (dec_lt (s j) k)),
      sum_of w n,
    )
  where
    go : (j : ℕ) → j < n → Dec (s j < k) → sum (λ t. length (text_if (eqb (s j) t) (line j))) k ≤ w
    go j l (yes m) = let o = once (s j) (line j) k in omega (arith, h j l m)
    go j l (no m) = omega (arith, none_yet (s j) (line j) k (omega arith))
