-- Following the house as it works: what the call says and shows.
-- Assumes nothing.
use Rattle.std.specs.Prelude.{◌≡◌, false, List, ℕ}
use Rattle.refusals.specs.Refusals.{Verdict, accepted}
use Rattle.rules.specs.Plans.{starts}
use Rattle.rules.specs.Following.{Answered}
use Rattle.tables.specs.declared.Loaded.{Loaded}
use Rattle.tables.specs.declared.Answer.{Answer}
use Rattle.tables.specs.Tables.{problem, answer_of}
use Rattle.verdict.specs.Offered.{offered}
use Rattle.following.specs.declared.Watch.{Watch}
use Rattle.following.specs.declared.Screen.{Screen}

-- the screen of a refusal: the words as they came, no facts and no jobs
abbrev pub dark : Watch → Answer → Screen
dark w a = record { answer = a; started = w.started; finished = w.finished; facts = 0; may_start = 0 }

-- the promise of `follow`: checks 3 to 9, 20, 11 to 14 and 21 of the offered starts s, then the answer v to the event
pub record Following (l : Loaded) (w : Watch) (s : List ℕ) (r : Screen) : Type 0 where
  pub v : Verdict
  pub behind : offered false l w.ask s accepted ≡ accepted
      → Answered (problem l w.ask) (starts s) w.started w.finished w.event w.job v r.started r.finished r.facts r.may_start
  pub says : r.answer ≡ answer_of (offered false l w.ask s v) 0 0
  pub refuses : (r.answer.number ≡ 0 → ⊥) → r ≡ dark w r.answer
