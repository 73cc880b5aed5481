-- Tidying a job file in the lent buffer: the last save moves to the front.
-- Assumes nothing.
use Rattle.std.specs.Prelude.{◌≡◌, List, ◌++◌, ℕ, ◌-◌, ltb, length, take, drop, replicate}
use Rattle.refusals.specs.Refusals.{Verdict, refuse_if}
use Rattle.tables.specs.declared.Answer.{Answer}
use Rattle.tables.specs.Tables.{answer_of, changed}
use Rattle.jobfile.specs.Format.{save_length}
use Rattle.jobfile.specs.Calls.{read_checks}

-- the last n of the bytes in use moved to the front, zeros behind them up to where the bytes in use ended, and what stood behind those
abbrev pub pulled : (n used : ℕ) → List ℕ → List ℕ
pulled n used buf = take n (drop (used - n) buf) ++ (replicate (used - n) 0 ++ drop used buf)

-- the checks: 1, then 3 where more bytes are said to be in use than there are, then those of a reader of the bytes in use, with room for any job count
unfoldable pub tidy_checks : (used : ℕ) → List ℕ → Verdict
tidy_checks used buf = refuse_if (ltb 65536 used) 1 0 (refuse_if (ltb (length buf) used) 3 0 (read_checks (take used buf) 255))

-- the answer is the new length, and the last save with its notes is at the front; on refusal every byte is as it was
pub record Tidies (used : ℕ) (old new : List ℕ) (r : Answer) : Type 0 where
  pub says : r ≡ answer_of (tidy_checks used old) (save_length (take used old)) 0
  pub bytes : new ≡ changed (tidy_checks used old) (pulled (save_length (take used old)) used old) old
