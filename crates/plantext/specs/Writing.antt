-- The text of a plan, and what writing it promises.
-- Assumes nothing.
use Rattle.std.specs.Prelude.{◌≡◌, ◌||◌, List, ◌++◌, ℕ, ◌/◌, ltb, length}
use Rattle.refusals.specs.Refusals.{Verdict, accepted}
use Rattle.rules.specs.Table.{Problem}
use Rattle.rules.specs.Plans.{Plan, starts}
use Rattle.tables.specs.declared.Loaded.{Loaded}
use Rattle.tables.specs.declared.Ask.{Ask}
use Rattle.tables.specs.declared.Answer.{Answer}
use Rattle.tables.specs.Tables.{problem, answer_of, changed}
use Rattle.verdict.specs.Offered.{offered}
use Rattle.bytes_le.specs.Little.{at_front}
use Rattle.lines.specs.Letters.{letters}
use Rattle.lines.specs.Lines.{decimal, by_start}
use Rattle.plantext.specs.Names.{name_of, names_check}

-- the line of job j: start, name and duration, the numbers with a point and three zeros
unfoldable pub step_line : (names : List ℕ) → Problem → Plan → (j : ℕ) → List ℕ
step_line names P s j = decimal (s j) ++ (letters ".000: (" ++ (name_of names j ++ (letters ") [" ++ (decimal (P.duration j) ++ letters ".000]\n"))))

-- a line a job of the plan, by start, then job
unfoldable pub steps_text : (names : List ℕ) → Problem → (bound : ℕ) → Plan → List ℕ
steps_text names P b s = by_start (step_line names P s) s P.count b

-- the verdict on a plan to be written, where `room` bytes are lent: 16 bytes of names and 39 of text a job are wanted, and the plan is valid
unfoldable pub write_verdict : Loaded → Ask → (names s : List ℕ) (room : ℕ) → Verdict
write_verdict l q names s room = offered (ltb (length names / 16) q.jobs || ltb (room / 39) q.jobs) l q s (names_check names q.jobs accepted)

-- the answer is the length of the text, which stands in the first bytes; every other byte is as it was
pub record WritesText (l : Loaded) (q : Ask) (names s old new : List ℕ) (r : Answer) : Type 0 where
  pub says : r ≡ answer_of (write_verdict l q names s (length old)) (length (steps_text names (problem l q) q.bound (starts s))) 0
  pub bytes : new ≡ changed (write_verdict l q names s (length old)) (at_front (steps_text names (problem l q) q.bound (starts s)) old) old
