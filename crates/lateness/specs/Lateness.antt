-- How late it can get: what the call says.
-- Assumes nothing.
use Rattle.std.specs.Prelude.{◌≡◌, false, List, ℕ}
use Rattle.refusals.specs.Refusals.{Verdict, accepted}
use Rattle.rules.specs.Plans.{starts}
use Rattle.rules.specs.Lateness.{LatestFinish, overrun_check}
use Rattle.tables.specs.declared.Loaded.{Loaded}
use Rattle.tables.specs.declared.Answer.{Answer}
use Rattle.tables.specs.Tables.{problem, answer_of}
use Rattle.verdict.specs.Offered.{offered}
use Rattle.lateness.specs.declared.Overruns.{Overruns}

-- checks 3 to 9, 20, 11 to 14 and 21 of the offered starts s, then 34
abbrev pub late_verdict : Loaded → Overruns → (s : List ℕ) → Verdict
late_verdict l o s = offered false l o.ask s (overrun_check o.most accepted)

-- the promise of `how_late`: behind the checks the value is the latest finish of the plan
pub record HowLate (l : Loaded) (o : Overruns) (s : List ℕ) (r : Answer) : Type 0 where
  pub t : ℕ
  pub behind : late_verdict l o s ≡ accepted → LatestFinish (problem l o.ask) o.ask.bound (starts s) o.most t
  pub says : r ≡ answer_of (late_verdict l o s) t 0
