use mathlib.Core.Path.{refl}
use borrow.Author.Tests.{lt-ltb, le-ltb}
use Rattle.facts.proofs.Bools.{or_first, or_next}
use Rattle.settle.proofs.too_few.Goals as goal

pub returns-then-out-jobs : goal.returns-then-out-jobs
returns-then-out-jobs c = or_first _ refl (lt-ltb _ _ c.if-out-jobs.true)

pub returns-else-out-jobs : goal.returns-else-out-jobs
returns-else-out-jobs c = or_next refl (le-ltb _ _ c.if-out-jobs.false) refl
