-- The text that bench-plan prints, as a list of letters' codes.
-- Assumes nothing.
use Rattle.std.specs.Prelude.{◌≡◌, cond, List, ◌++◌, ℕ, ◌+◌, ◌*◌, ◌/◌, ◌≤◌, eqb, ltb, length, get_or, replicate}
use Rattle.refusals.specs.Refusals.{Verdict, accepted, refuse_if}
use Rattle.rules.specs.Table.{Problem}
use Rattle.rules.specs.Plans.{Plan, starts, finish}
use Rattle.rules.specs.Pairs.{joined, pair_bytes}
use Rattle.tables.specs.declared.Loaded.{Loaded}
use Rattle.tables.specs.declared.Ask.{Ask}
use Rattle.tables.specs.declared.Answer.{Answer}
use Rattle.tables.specs.Tables.{problem, answer_of, changed}
use Rattle.planning.specs.Planning.{BoundsWithin}
use Rattle.bytes_le.specs.Little.{at_front}
use Rattle.jobfile.specs.Calls.{reading}
use Rattle.lines.specs.Lines.{refused_line, least_line, job_line, pair_line, by_start}

-- ── jobs and pairs ──

-- the line of job j of the plan
abbrev pub plan_line : Problem → Plan → (j : ℕ) → List ℕ
plan_line P s j = job_line (s j) (finish P s j) j

-- the plan's jobs by start, then number, up to the bound
abbrev pub job_lines : Problem → Plan → (bound : ℕ) → List ℕ
job_lines P s = by_start (plan_line P s) s P.count

-- a line for each of the first n pairs, of two bytes each
abbrev pub pair_lines : List ℕ → ℕ → List ℕ
pair_lines bytes n = joined (λ i. pair_line (get_or bytes (2 * i) 0) (get_or bytes (2 * i + 1) 0)) n

-- ── the whole ──

-- the least bound, then the plan's jobs, then the binding pairs
unfoldable pub plan_text : Problem → (b : ℕ) → Plan → List ℕ
plan_text P b s = least_line b ++ (job_lines P s b ++ pair_lines (pair_bytes P s) (length (pair_bytes P s) / 2))

-- the plan, or the refusal
abbrev pub said : Answer → List ℕ → List ℕ
said a text = cond (eqb a.number 0) text (refused_line a.number a.place)

-- what is printed of a table: a and ys are what the least bound gives for it, with all starts out before
pub record Shows (l : Loaded) (q : Ask) (text : List ℕ) : Type 0 where
  pub a : Answer
  pub ys : List ℕ
  pub bounds : BoundsWithin l q (replicate 24 65535) ys a
  pub shows : text ≡ said a (plan_text (problem l q) a.value (starts ys))

-- what is printed of a file: the refusal of the reader, which is lent 255 records, or what is printed of the table read
pub record Prints (file text : List ℕ) : Type 0 where
  pub of : List ℕ
  pub shows : (reading file 255).answer.number ≡ 0 → Shows (reading file 255).table (reading file 255).ask of
  pub prints : text ≡ said (reading file 255).answer of

-- 8,192 bytes are wanted, which hold the longest text
abbrev pub room_check : (room : ℕ) → Verdict
room_check room = refuse_if (ltb room 8192) 3 0 accepted

-- the answer is the length of the text, which stands in the first bytes; every other byte is as it was
pub record Pages (file old new : List ℕ) (r : Answer) : Type 0 where
  pub text : List ℕ
  pub prints : 8192 ≤ length old → Prints file text
  pub says : r ≡ answer_of (room_check (length old)) (length text) 0
  pub bytes : new ≡ changed (room_check (length old)) (at_front text old) old
