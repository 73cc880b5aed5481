-- A line of a plan's text, as it stands at a place: start, name and duration. Behind the end of a text stand zeros, which no line has.
-- Assumes nothing.
use Rattle.std.specs.Prelude.{Bool, not, cond, ◌&&◌, ◌||◌, List, ℕ, zero, suc, ◌+◌, ◌-◌, ◌*◌, eqb, ltb, length, get_or}
use Rattle.facts.specs.Least.{least, any}
use Rattle.rules.specs.Table.{between}
use Rattle.lines.specs.Letters.{letters}

-- ── letters ──

-- the letter at a place, 0 behind the end
abbrev pub letter_at : List ℕ → ℕ → ℕ
letter_at text i = get_or text i 0

-- a digit
unfoldable pub is_digit : ℕ → Bool
is_digit c = between 48 57 c

-- the digit 0
unfoldable pub is_zero : ℕ → Bool
is_zero c = eqb c 48

-- a letter of a name: a small letter, a digit or a hyphen
unfoldable pub in_name : ℕ → Bool
in_name c = between 97 122 c || (is_digit c || eqb c 45)

-- how many letters from a place on pass the test, so many at most
abbrev pub letters_from : (ℕ → Bool) → List ℕ → (at most : ℕ) → ℕ
letters_from f text at most = least (λ i. not (f (letter_at text (at + i)))) most

-- the first n letters are the same
unfoldable pub same_letters : (one other : ℕ → ℕ) (n : ℕ) → Bool
same_letters f g n = not (any (λ i. not (eqb (f i) (g i))) n)

-- the word stands at a place
unfoldable pub word_stands : (word text : List ℕ) (at : ℕ) → Bool
word_stands word text at = same_letters (λ i. letter_at text (at + i)) (letter_at word) (length word)

-- ── numbers: 1 to 4 digits and, if wanted, a point and one or more zeros ──

-- where the digits from a place on end, looked at up to the fifth
unfoldable pub digits_end : List ℕ → (at : ℕ) → ℕ
digits_end text at = at + letters_from is_digit text at 5

-- a point stands there
unfoldable pub point_at : List ℕ → (at : ℕ) → Bool
point_at text at = eqb (letter_at text at) 46

-- where the zeros from a place on end
unfoldable pub zeros_end : List ℕ → (at : ℕ) → ℕ
zeros_end text at = at + letters_from is_zero text at (length text - at)

-- where the number ends: behind its digits, or behind the zeros that follow the point
unfoldable pub number_end : List ℕ → (at : ℕ) → ℕ
number_end text at = cond (point_at text (digits_end text at)) (zeros_end text (digits_end text at + 1)) (digits_end text at)

-- a number stands at a place
unfoldable pub number_at : List ℕ → (at : ℕ) → Bool
number_at text at =
    between (at + 1) (at + 4) (digits_end text at) && (not (point_at text (digits_end text at)) || ltb (digits_end text at + 1) (zeros_end text (digits_end text at + 1)))

-- the value of so many digits from a place on
unfoldable pub value_of : List ℕ → (at digits : ℕ) → ℕ
value_of text at zero = 0
value_of text at (suc k) = 10 * value_of text at k + (letter_at text (at + k) - 48)

-- the value of the number at a place
unfoldable pub value_at : List ℕ → (at : ℕ) → ℕ
value_at text at = value_of text at (letters_from is_digit text at 5)

-- ── lines: start, `: (`, name, `) [`, duration, `]` and a newline ──

-- where the name of the line stands
unfoldable pub name_at : List ℕ → (at : ℕ) → ℕ
name_at text at = number_end text at + 3

-- how many letters the name has, looked at up to the seventeenth
unfoldable pub name_length : List ℕ → (at : ℕ) → ℕ
name_length text at = letters_from in_name text (name_at text at) 17

-- where the name ends
unfoldable pub name_end : List ℕ → (at : ℕ) → ℕ
name_end text at = name_at text at + name_length text at

-- where the duration stands
unfoldable pub duration_at : List ℕ → (at : ℕ) → ℕ
duration_at text at = name_end text at + 3

-- where the next line stands
unfoldable pub next_line : List ℕ → (at : ℕ) → ℕ
next_line text at = number_end text (duration_at text at) + 2

-- a start, then a name of 1 to 16 letters
unfoldable pub start_form : List ℕ → (at : ℕ) → Bool
start_form text at = number_at text at && (word_stands (letters ": (") text (number_end text at) && between 1 16 (name_length text at))

-- behind them a duration and the newline
unfoldable pub duration_form : List ℕ → (at : ℕ) → Bool
duration_form text at =
    word_stands (letters ") [") text (name_end text at) && (number_at text (duration_at text at) && word_stands (letters "]\n") text (number_end text (duration_at text at)))

-- the line that stands at a place has the form
unfoldable pub in_form : List ℕ → (at : ℕ) → Bool
in_form text at = start_form text at && duration_form text at
