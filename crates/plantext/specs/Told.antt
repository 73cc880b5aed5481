-- What 02 says of a line, letter by letter, and what the laws say of reading: such lines, and no others, are read, wherever they stand and in any order.
-- Assumes nothing.
use Rattle.std.specs.Prelude.{◌≡◌, ◌⊎◌, ◌≢◌, List, ◌∷◌, ◌++◌, ℕ, suc, ◌+◌, ◌*◌, ◌≤◌, ◌<◌, T, length, replicate}
use Rattle.lines.specs.Letters.{letters}
use Rattle.rules.specs.Table.{Problem}
use Rattle.plantext.specs.Form.{letter_at, is_digit, in_name, value_of, value_at, name_at, name_length, duration_at, next_line, in_form}
use Rattle.plantext.specs.Reading.{line_at, line_job, lines_read}

-- 1 to 4 digits, of the number n
pub record DigitText (n : ℕ) (w : List ℕ) : Type 0 where
  pub some : 1 ≤ length w
  pub most : length w ≤ 4
  pub digits : (i : ℕ) → i < length w → T (is_digit (letter_at w i))
  pub value : value_of w 0 (length w) ≡ n

-- the same with a point and one or more zeros behind it
pub record PointText (n : ℕ) (w : List ℕ) : Type 0 where
  pub front : List ℕ
  pub zeros : ℕ
  pub whole : DigitText n front
  pub is : w ≡ front ++ (46 ∷ replicate (suc zeros) 48)

-- a number
abbrev pub NumberText : (n : ℕ) (w : List ℕ) → Type 0
NumberText n w = DigitText n w ⊎ PointText n w

-- a name: 1 to 16 small letters, digits or hyphens
pub record NameText (w : List ℕ) : Type 0 where
  pub some : 1 ≤ length w
  pub most : length w ≤ 16
  pub small : (i : ℕ) → i < length w → T (in_name (letter_at w i))

-- the 16 bytes of job j are this name and zeros behind it
pub record NamedBy (names : List ℕ) (j : ℕ) (w : List ℕ) : Type 0 where
  pub text : NameText w
  pub bytes : (i : ℕ) → i < 16 → letter_at names (16 * j + i) ≡ letter_at w i

-- each of n jobs has a name, and no two are alike
pub record GoodNames (names : List ℕ) (n : ℕ) : Type 0 where
  pub named : (j : ℕ) → j < n → (w : List ℕ) × NamedBy names j w
  pub apart : (i j : ℕ) → i < n → j < n → i ≢ j → (k : ℕ) × (k < 16) × (letter_at names (16 * i + k) ≢ letter_at names (16 * j + k))

-- a line: the job of that name starts at t and lasts d quarter hours
pub record LineText (t : ℕ) (name : List ℕ) (d : ℕ) (line : List ℕ) : Type 0 where
  pub start : List ℕ
  pub duration : List ℕ
  pub starts : NumberText t start
  pub named : NameText name
  pub lasts : NumberText d duration
  pub is : line ≡ start ++ (letters ": (" ++ (name ++ (letters ") [" ++ (duration ++ letters "]\n"))))

-- the letters of w stand in the text from a place on
abbrev pub StandsIn : (w text : List ℕ) (at : ℕ) → Type 0
StandsIn w text at = (i : ℕ) → i < length w → letter_at text (at + i) ≡ letter_at w i

-- what is read at a place is a line that says this, and ends there
pub record LineRead (text : List ℕ) (at t : ℕ) (name : List ℕ) (d end : ℕ) : Type 0 where
  pub form : T (in_form text at)
  pub start : value_at text at ≡ t
  pub long : name_length text at ≡ length name
  pub letters : StandsIn name text (name_at text at)
  pub duration : value_at text (duration_at text at) ≡ d
  pub next : next_line text at ≡ end

-- a line stands at a place that says what is read there
pub record LineThere (text : List ℕ) (at : ℕ) : Type 0 where
  pub name : List ℕ
  pub line : List ℕ
  pub is : LineText (value_at text at) name (value_at text (duration_at text at)) line
  pub stands : StandsIn line text at
  pub next : next_line text at ≡ at + length line

-- each line that is read of one text has a line of the other that says the same job and start
abbrev pub SaidToo : Problem → (names one other : List ℕ) → Type 0
SaidToo P names one other =
    (k : ℕ) → k < lines_read P names one → (i : ℕ) × (i < lines_read P names other) × (line_job P names other i ≡ line_job P names one k) × (value_at other (line_at other i) ≡ value_at one (line_at one k))
