use borrow.Author.Tests.{eq-eqb, ne_eqb}
use Rattle.verdict.proofs.ends_at.Goals as goal

pub returns-then-start-ne65535 : goal.returns-then-start-ne65535
returns-then-start-ne65535 c = simp (ne_eqb _ _ c.if-start-ne65535.true, c.from.ensures, c.from-then-start-ne65535.ensures)

pub returns-else-start-ne65535 : goal.returns-else-start-ne65535
returns-else-start-ne65535 c = simp (eq-eqb _ _ c.if-start-ne65535.false)
