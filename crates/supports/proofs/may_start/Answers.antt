use mathlib.Core.Path.{sym}
use borrow.Author.Tests.{eqb-true}
use Rattle.facts.specs.Facts.{has}
use Rattle.facts.proofs.Bools.{says_test}
use Rattle.supports.proofs.Laws.{danger_bars, start_fair}
use Rattle.supports.proofs.may_start.Goals as goal

pub returns-then-dang-eq0 : goal.returns-then-dang-eq0
returns-then-dang-eq0 c P s b e k = says_test {x = has P.problem.opening c.args.p} (rw (e.listed.opening, sym c.opening.ensures) c.has.ensures) (start_fair s b k e.listed.few c.if-dang-eq0.true) (λ m. m.given)

pub returns-else-dang-eq0 : goal.returns-else-dang-eq0
returns-else-dang-eq0 c P s b e k = record { yea = λ h. absurd (c.if-dang-eq0.false (eqb-true _ _ h)); nay = λ h. danger_bars s b k c.if-dang-eq0.false }
