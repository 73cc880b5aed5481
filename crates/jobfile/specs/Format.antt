-- The job file as a list of bytes: records of 32 bytes, and a trailer of 24 that says where they stand.
-- Assumes nothing.
use Rattle.std.specs.Prelude.{Bool, not, ◌||◌, List, [], ◌∷◌, ◌++◌, ℕ, zero, suc, ◌+◌, ◌-◌, ◌*◌, min, eqb, ltb, length, get_or, take, drop}
use Rattle.facts.specs.Least.{any}
use Rattle.tables.specs.declared.Action.{Action}
use Rattle.tables.specs.declared.Loaded.{Loaded}
use Rattle.tables.specs.declared.Ask.{Ask}
use Rattle.tables.specs.Tables.{job_at, tabled}
use Rattle.bytes_le.specs.Little.{number, fields}

-- ── writing ──

-- a record: conditions, additions, deletions (8 bytes each), duration (2), release (2), four zeros
abbrev pub record_fields : Action → List (ℕ × ℕ)
record_fields a = (8, a.conditions) ∷ (8, a.additions) ∷ (8, a.deletions) ∷ (2, a.duration) ∷ (2, a.release) ∷ (4, 0) ∷ []

-- its bytes
abbrev pub record_of : Action → List ℕ
record_of a = fields (record_fields a)

-- the records of the first n jobs
unfoldable pub records_of : Loaded → ℕ → List ℕ
records_of l zero = []
records_of l (suc k) = records_of l k ++ record_of (job_at l k)

-- a trailer: opening facts (8), goals (8), bound (2), job count (1), atom count with the mark of its rule (1), distance (4), which is exactly 32 times the job count
abbrev pub trailer_fields : Ask → List (ℕ × ℕ)
trailer_fields q = (8, q.opening) ∷ (8, q.goals) ∷ (2, q.bound) ∷ (1, q.jobs) ∷ (1, q.atoms) ∷ (4, 32 * q.jobs) ∷ []

-- its bytes
abbrev pub trailer_of : Ask → List ℕ
trailer_of q = fields (trailer_fields q)

-- a save: the records, then the trailer
unfoldable pub save_of : Loaded → Ask → List ℕ
save_of l q = records_of l q.jobs ++ trailer_of q

-- how long the file is once a save stands behind the bytes used
abbrev pub length_after : (used jobs : ℕ) → ℕ
length_after used jobs = used + 32 * jobs + 24

-- ── reading ──

-- where the trailer starts: it is the last 24 bytes
abbrev pub trailer_at : List ℕ → ℕ
trailer_at file = length file - 24

-- the trailer
abbrev pub trailer_in : List ℕ → List ℕ
trailer_in file = drop (trailer_at file) file

-- the numbers that a trailer gives
abbrev pub ask_in : List ℕ → Ask
ask_in t = record { jobs = number 1 t 18; atoms = number 1 t 19; opening = number 8 t 0; goals = number 8 t 8; bound = number 2 t 16; set = 0; pairs = 0 }

-- the distance back from the trailer's start to the first record
abbrev pub distance_in : List ℕ → ℕ
distance_in t = number 4 t 20

-- the distance is less than 32 times the job count, or more than the file's length less 24
abbrev pub too_far : (distance jobs before : ℕ) → Bool
too_far d n m = ltb d (32 * n) || ltb m d

-- how long the last save is, its notes included: the distance, and the trailer's 24 bytes
abbrev pub save_length : List ℕ → ℕ
save_length file = distance_in (trailer_in file) + 24

-- the records: what stands before and after them is passed over
abbrev pub records_in : List ℕ → List ℕ
records_in file = take (32 * (ask_in (trailer_in file)).jobs) (drop (trailer_at file - distance_in (trailer_in file)) file)

-- one of the last four bytes of record i is not zero
unfoldable pub spoilt : List ℕ → ℕ → Bool
spoilt rs i = any (λ j. not (eqb (get_or rs (32 * i + 28 + j) 0) 0)) 4

-- record i
abbrev pub action_in : List ℕ → ℕ → Action
action_in rs i = record {
  conditions = number 8 rs (32 * i);
  additions = number 8 rs (32 * i + 8);
  deletions = number 8 rs (32 * i + 16);
  duration = number 2 rs (32 * i + 24);
  release = number 2 rs (32 * i + 26);
}

-- the first n records, as a caller that lends `room` records gets them
abbrev pub first_of : List ℕ → (n room : ℕ) → Loaded
first_of rs n room = tabled (action_in rs) n room

-- a table by value holds the first 24
abbrev pub table_in : List ℕ → (jobs room : ℕ) → Loaded
table_in rs jobs room = first_of rs (min jobs 24) room
