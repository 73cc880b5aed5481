-- The lines of the text that bench-plan prints, as lists of letters' codes.
-- Assumes nothing.
use Rattle.std.specs.Prelude.{Bool, true, false, List, [], ◌∷◌, ◌++◌, ℕ, ◌+◌, ◌/◌, ◌%◌, eqb, leb}
use Rattle.rules.specs.Plans.{Plan}
use Rattle.rules.specs.Pairs.{joined}
use Rattle.lines.specs.Letters.{letters}

-- ── numbers ──

-- the text where the test passes, else none
unfoldable pub text_if : Bool → List ℕ → List ℕ
text_if true text = text
text_if false text = []

-- the digit of so many units, where the number has it
abbrev pub digit : (n unit : ℕ) → List ℕ
digit n u = text_if (leb u n) ((48 + n / u % 10) ∷ [])

-- a number below 100,000
unfoldable pub decimal : ℕ → List ℕ
decimal n = digit n 10000 ++ (digit n 1000 ++ (digit n 100 ++ (digit n 10 ++ ((48 + n % 10) ∷ []))))

-- a number and the letter behind it: a blank, or the end of the line
abbrev pub number_then : (n letter : ℕ) → List ℕ
number_then n c = decimal n ++ (c ∷ [])

-- ── lines ──

-- `refused`, number and place in one line
abbrev pub refused_line : (number place : ℕ) → List ℕ
refused_line n k = letters "refused " ++ (number_then n 32 ++ number_then k 10)

-- `least` and the least bound
abbrev pub least_line : ℕ → List ℕ
least_line b = letters "least " ++ number_then b 10

-- start, finish and number of a job
abbrev pub job_line : (start end job : ℕ) → List ℕ
job_line t e j = number_then t 32 ++ (number_then e 32 ++ number_then j 10)

-- `before` between the two jobs of a pair
abbrev pub pair_line : (a b : ℕ) → List ℕ
pair_line a b = decimal a ++ (letters " before " ++ number_then b 10)

-- ── jobs of a plan ──

-- the lines of the jobs below n that start at t, by number
abbrev pub starting_at : (line : ℕ → List ℕ) → Plan → (n t : ℕ) → List ℕ
starting_at line s n t = joined (λ j. text_if (eqb (s j) t) (line j)) n

-- the lines of the plan's jobs by start, then number: those that start at 0, at 1, and so on up to the bound
abbrev pub by_start : (line : ℕ → List ℕ) → Plan → (n bound : ℕ) → List ℕ
by_start line s n b = joined (starting_at line s n) (b + 1)
