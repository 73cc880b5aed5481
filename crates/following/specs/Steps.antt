-- What the steps of following promise.
-- Assumes nothing.
use Rattle.std.specs.Prelude.{◌≡◌, not, ◌&&◌, ℕ}
use Rattle.facts.specs.Facts.{has}
use Rattle.facts.specs.Words.{Word}
use Rattle.refusals.specs.Refusals.{accepted}
use Rattle.rules.specs.Table.{Problem}
use Rattle.rules.specs.Plans.{Plan, holds}
use Rattle.rules.specs.InStep.{freed, finished_of, WithEvent}
use Rattle.tables.specs.Tables.{answer_of}
use Rattle.following.specs.declared.Watch.{Watch}
use Rattle.following.specs.declared.Screen.{Screen}

-- the screen after an event, from the words
pub record Screened (P : Problem) (bound : ℕ) (s : Plan) (w : Watch) (r : Screen) : Type 0 where
  pub says : r.answer ≡ answer_of accepted 0 0
  pub noted : WithEvent w.started w.finished w.event w.job r.started r.finished
  pub facts : Word (λ p. holds P (finished_of r.finished s) p bound) r.facts
  pub free : Word (λ j. freed P s r.finished j && not (has r.started j)) r.may_start
