-- The name table: 16 bytes a job, the letters of its name and zeros behind them.
-- Assumes nothing.
use Rattle.std.specs.Prelude.{Bool, not, cond, ◌&&◌, ◌||◌, List, ℕ, ◌+◌, ◌*◌, eqb, ltb, take, drop}
use Rattle.facts.specs.Least.{least, any}
use Rattle.refusals.specs.Refusals.{Verdict, refuse_at}
use Rattle.plantext.specs.Form.{letter_at, in_name, letters_from, same_letters, name_at, name_length}

-- how many letters the name of job j has
unfoldable pub name_size : (names : List ℕ) (j : ℕ) → ℕ
name_size names j = letters_from in_name names (16 * j) 16

-- the name of job j
unfoldable pub name_of : (names : List ℕ) (j : ℕ) → List ℕ
name_of names j = take (name_size names j) (drop (16 * j) names)

-- letter i of the name of so many letters that stands at a place; zeros behind it
unfoldable pub name_letter : (text : List ℕ) (at size i : ℕ) → ℕ
name_letter text at size i = cond (ltb i size) (letter_at text (at + i)) 0

-- the 16 bytes of job j are the name of so many letters that stands at a place
unfoldable pub is_named : (names : List ℕ) (j : ℕ) (text : List ℕ) (at size : ℕ) → Bool
is_named names j text at size = same_letters (λ i. letter_at names (16 * j + i)) (name_letter text at size) 16

-- job j has no name of 1 to 16 letters, with zeros alone behind it
unfoldable pub misnamed : (names : List ℕ) (j : ℕ) → Bool
misnamed names j = eqb (name_size names j) 0 || not (is_named names j names (16 * j) (name_size names j))

-- another of n jobs has the bytes of job j
unfoldable pub shares_name : (names : List ℕ) (n j : ℕ) → Bool
shares_name names n j = any (λ i. not (eqb i j) && is_named names i names (16 * j) 16) n

-- check 33, over n jobs
unfoldable pub names_check : (names : List ℕ) (n : ℕ) → Verdict → Verdict
names_check names n next = refuse_at (λ j. misnamed names j || shares_name names n j) n 33 next

-- the job that the line at a place names, or n
unfoldable pub job_named : (names : List ℕ) (n : ℕ) (text : List ℕ) (at : ℕ) → ℕ
job_named names n text at = least (λ j. is_named names j text (name_at text at) (name_length text at)) n
