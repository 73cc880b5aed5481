-- Why a job starts when it does and why there is no plan: what the calls say and fill.
-- Assumes nothing.
use Rattle.std.specs.Prelude.{◌≡◌, false, List, ℕ, length}
use Rattle.refusals.specs.Refusals.{Verdict, accepted}
use Rattle.rules.specs.declared.Hindrance.{Hindrance}
use Rattle.rules.specs.declared.Hindrance.TheVariants.{Never, TooDear, Neither}
use Rattle.rules.specs.Estimates.{Estimates}
use Rattle.rules.specs.Reasons.{Explained, hindrance_of}
use Rattle.tables.specs.declared.Loaded.{Loaded}
use Rattle.tables.specs.declared.Ask.{Ask}
use Rattle.tables.specs.declared.Answer.{Answer}
use Rattle.tables.specs.Tables.{problem, answer_of, changed, written, call_checks}
use Rattle.times.specs.Times.{wanted}
use Rattle.settle.specs.Settle.{settling_checks}
use Rattle.reasons.specs.declared.Question.{Question}
use Rattle.reasons.specs.declared.Reason.{Reason}

-- the promise of `why_start`: the checks of settling, one byte a job being lent, then the answer v and the chain, whose length is the value; where v accepts the lent bytes begin with it
pub record WhyStart (l : Loaded) (q : Question) (bytes old new : List ℕ) (r : Answer) : Type 0 where
  pub v : Verdict
  pub chain : List ℕ
  pub behind : settling_checks l q.ask bytes (length old) accepted ≡ accepted → Explained (problem l q.ask) (wanted l q.ask bytes) q.job v chain
  pub says : r ≡ answer_of (settling_checks l q.ask bytes (length old) v) (length chain) 0
  pub leaves : new ≡ changed (settling_checks l q.ask bytes (length old) v) (written chain old) old

-- a reason as numbers: 1 a goal never reachable, 2 a goal above the bound, 3 neither; the goal, 64 for none
abbrev pub reason_of : Hindrance → Reason
reason_of (Never p) = record { answer = answer_of accepted 0 0; kind = 1; fact = p }
reason_of (TooDear p) = record { answer = answer_of accepted 0 0; kind = 2; fact = p }
reason_of Neither = record { answer = answer_of accepted 0 0; kind = 3; fact = 64 }

-- a refusal gives none
abbrev pub no_reason : Answer → Reason
no_reason a = record { answer = a; kind = 0; fact = 64 }

-- the verdict on a call for the reason: checks 3 to 9 and 20, nothing being lent beside the records
abbrev pub reason_verdict : Loaded → Ask → Verdict
reason_verdict l q = call_checks false q.bound l q accepted

-- the promise of `why_no_plan`: where the checks accept, the reason by the estimates
pub record WhyNoPlan (l : Loaded) (q : Ask) (r : Reason) : Type 0 where
  pub est : ℕ → ℕ
  pub tells : reason_verdict l q ≡ accepted → Estimates (problem l q) est × (r ≡ reason_of (hindrance_of (problem l q) est q.bound))
  pub refuses : ((reason_verdict l q).number ≡ 0 → ⊥) → r ≡ no_reason (answer_of (reason_verdict l q) 0 0)
