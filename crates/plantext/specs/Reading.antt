-- What reading a plan's text promises: the starts that its lines say, in any order, or the refusal of the first bad line.
-- Assumes nothing.
use Rattle.std.specs.Prelude.{◌≡◌, Bool, not, cond, ◌||◌, List, ℕ, zero, suc, ◌/◌, eqb, leb, ltb, length}
use Rattle.facts.specs.Least.{least}
use Rattle.refusals.specs.Refusals.{Verdict, accepted, refuse_if}
use Rattle.rules.specs.Table.{Problem}
use Rattle.rules.specs.Plans.{Plan, in_plan}
use Rattle.tables.specs.declared.Loaded.{Loaded}
use Rattle.tables.specs.declared.Ask.{Ask}
use Rattle.tables.specs.declared.Answer.{Answer}
use Rattle.tables.specs.Tables.{problem, answer_of, filled, changed, call_checks}
use Rattle.plantext.specs.Form.{value_at, duration_at, next_line, in_form}
use Rattle.plantext.specs.Names.{names_check, job_named}

-- where line k of the text stands: behind those before it
unfoldable pub line_at : (text : List ℕ) → ℕ → ℕ
line_at text zero = 0
line_at text (suc k) = next_line text (line_at text k)

-- the job that line k names, or the job count
unfoldable pub line_job : Problem → (names text : List ℕ) → ℕ → ℕ
line_job P names text k = job_named names P.count text (line_at text k)

-- the starts that the first k lines say; a job without a line is out
unfoldable pub plan_said : Problem → (names text : List ℕ) → (k : ℕ) → Plan
plan_said P names text zero j = 65535
plan_said P names text (suc k) j = cond (eqb j (line_job P names text k)) (value_at text (line_at text k)) (plan_said P names text k j)

-- line k is outside the form, or its start is over 2,880
unfoldable pub formless : (text : List ℕ) → ℕ → Bool
formless text k = not (in_form text (line_at text k)) || ltb 2880 (value_at text (line_at text k))

-- checks 23 to 26 of line k
unfoldable pub line_checks : Problem → (names text : List ℕ) → ℕ → Verdict → Verdict
line_checks P names text k next =
    refuse_if (formless text k) 23 k
    (refuse_if (eqb (line_job P names text k) P.count) 24 k
    (refuse_if (in_plan (plan_said P names text k) (line_job P names text k)) 25 k
    (refuse_if (not (eqb (value_at text (duration_at text (line_at text k))) (P.duration (line_job P names text k)))) 26 k next)))

-- the text ends before line k
unfoldable pub text_over : (text : List ℕ) → ℕ → Bool
text_over text k = leb (length text) (line_at text k)

-- how many lines are read: up to the end of the text or the first bad line; none is shorter than a letter
unfoldable pub lines_read : Problem → (names text : List ℕ) → ℕ
lines_read P names text = least (λ k. text_over text k || not (eqb (line_checks P names text k accepted).number 0)) (length text)

-- checks 23 to 26: the first bad line decides, then the number
unfoldable pub text_checks : Problem → (names text : List ℕ) → Verdict → Verdict
text_checks P names text next = cond (text_over text (lines_read P names text)) next (line_checks P names text (lines_read P names text) next)

-- the verdict on a text, where `room` starts are lent: one a job, and 16 bytes of names a job; there is no bound
unfoldable pub read_verdict : Loaded → Ask → (names text : List ℕ) (room : ℕ) → Verdict
read_verdict l q names text room =
    call_checks (ltb room q.jobs || ltb (length names / 16) q.jobs) 0 l q (names_check names q.jobs (text_checks (problem l q) names text accepted))

-- the answer says the verdict, and where it accepts the starts are those that the lines say; every other place is as it was
pub record ReadsText (l : Loaded) (q : Ask) (names text old new : List ℕ) (r : Answer) : Type 0 where
  pub says : r ≡ answer_of (read_verdict l q names text (length old)) 0 0
  pub leaves : new ≡ changed (read_verdict l q names text (length old)) (filled (plan_said (problem l q) names text (lines_read (problem l q) names text)) q.jobs old) old
