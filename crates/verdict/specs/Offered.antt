-- The verdict on an offered plan.
-- Assumes nothing.
use Rattle.std.specs.Prelude.{◌≡◌, Bool, false, ◌||◌, List, ℕ, ltb, length}
use Rattle.refusals.specs.Refusals.{Verdict, accepted}
use Rattle.rules.specs.Plans.{starts}
use Rattle.rules.specs.Verdicts.{plan_checks}
use Rattle.tables.specs.declared.Loaded.{Loaded}
use Rattle.tables.specs.declared.Ask.{Ask}
use Rattle.tables.specs.declared.Answer.{Answer}
use Rattle.tables.specs.Tables.{problem, answer_of, call_checks}

-- checks 3 to 9, 20, 11 to 14 and 21 of a call with the offered starts s; `short` says that other lent memory is too short
abbrev pub offered : (short : Bool) → Loaded → Ask → List ℕ → Verdict → Verdict
offered short l q s next = call_checks (short || ltb (length s) q.jobs) q.bound l q (plan_checks (problem l q) q.bound (starts s) next)

-- the answer says the verdict on the offered plan
abbrev pub ChecksPlan : Loaded → Ask → List ℕ → Answer → Type 0
ChecksPlan l q s r = r ≡ answer_of (offered false l q s accepted) 0 0
