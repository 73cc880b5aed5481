use Rattle.jobs.proofs.Laws.{noted_not, noted_with}
use Rattle.facts.proofs.Tests.{passed, failed}
use mathlib.Core.Path.{refl}
use native.Mathlib.Omega.{arith}
use Rattle.jobs.proofs.with_if.Goals as goal

pub returns-then-not-flag : goal.returns-then-not-flag
returns-then-not-flag c = noted_not (λ l a. failed {r = c.args.flag} refl c.if-not-flag.true-raw a)

pub returns-then-j-ge24 : goal.returns-then-j-ge24
returns-then-j-ge24 c = noted_not (λ l a. absurd (omega arith))

pub returns : goal.returns
returns c = rw c.with.ensures (noted_with (omega arith) (passed {r = c.args.flag} refl c.if-not-flag.false-raw))
