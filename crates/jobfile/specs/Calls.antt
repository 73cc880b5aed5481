-- What the reader and the writer promise.
-- Assumes nothing.
use Rattle.std.specs.Prelude.{◌≡◌, false, cond, List, ℕ, eqb, ltb, length}
use Rattle.facts.specs.Least.{any}
use Rattle.refusals.specs.Refusals.{Verdict, accepted, refuse_if}
use Rattle.tables.specs.declared.Loaded.{Loaded}
use Rattle.tables.specs.declared.Ask.{Ask}
use Rattle.tables.specs.declared.Answer.{Answer}
use Rattle.tables.specs.Tables.{answer_of, changed, call_checks, no_jobs}
use Rattle.bytes_le.specs.Little.{laid}
use Rattle.jobfile.specs.declared.Read.{Read}
use Rattle.jobfile.specs.Format.{save_of, length_after, trailer_at, trailer_in, ask_in, distance_in, too_far, records_in, spoilt, table_in}

-- ── reading ──

-- the checks of the records, the last of 2, then 3 to 9 and 20: the caller lends `room` records
abbrev pub record_checks : List ℕ → Ask → (room : ℕ) → Verdict
record_checks rs q room = refuse_if (any (spoilt rs) q.jobs) 2 0 (call_checks false q.bound (table_in rs q.jobs room) q accepted)

-- the checks of the distance and the records
unfoldable pub save_checks : List ℕ → (room : ℕ) → Verdict
save_checks file room =
    refuse_if (too_far (distance_in (trailer_in file)) (ask_in (trailer_in file)).jobs (trailer_at file)) 2 0
    (record_checks (records_in file) (ask_in (trailer_in file)) room)

-- the checks of a reader
unfoldable pub read_checks : List ℕ → (room : ℕ) → Verdict
read_checks file room = refuse_if (ltb 65536 (length file)) 1 0 (refuse_if (ltb (length file) 24) 2 0 (save_checks file room))

-- no numbers, as on refusal
abbrev pub no_ask : Ask
no_ask = record { jobs = 0; atoms = 0; opening = 0; goals = 0; bound = 0; set = 0; pairs = 0 }

-- the answer with the numbers and the records
abbrev pub whole : Answer → Ask → Loaded → Read
whole a q l = record { answer = a; ask = q; table = l }

-- what is returned on refusal
abbrev pub nothing : Answer → Read
nothing a = whole a no_ask (no_jobs 0)

-- what is returned where the checks say v: the numbers and records where they accept
abbrev pub handed : Verdict → Ask → Loaded → Read
handed v q l = cond (eqb v.number 0) (whole (answer_of v 0 0) q l) (nothing (answer_of v 0 0))

-- the same with what the file holds
abbrev pub handed_from : Verdict → List ℕ → (room : ℕ) → Read
handed_from v file room = handed v (ask_in (trailer_in file)) (table_in (records_in file) (ask_in (trailer_in file)).jobs room)

-- what the reader returns
abbrev pub reading : List ℕ → (room : ℕ) → Read
reading file room = handed_from (read_checks file room) file room

-- ── writing ──

-- the checks of a writer, for a buffer of `size` bytes
unfoldable pub write_checks : Loaded → Ask → (used size : ℕ) → Verdict
write_checks l q used size = refuse_if (ltb 65536 (length_after used q.jobs)) 1 0 (call_checks (ltb size (length_after used q.jobs)) q.bound l q accepted)

-- the answer is the new length, and the buffer has the save behind the bytes used; every other byte is as it was
pub record Writes (l : Loaded) (q : Ask) (used : ℕ) (old new : List ℕ) (r : Answer) : Type 0 where
  pub says : r ≡ answer_of (write_checks l q used (length old)) (length_after used q.jobs) 0
  pub bytes : new ≡ changed (write_checks l q used (length old)) (laid (save_of l q) used old) old

-- ── what was saved ──
