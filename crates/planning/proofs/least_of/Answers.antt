use Rattle.bounds.proofs.Laws.{served_to, some_to, held_to}
use Rattle.planning.proofs.Laws.{least_found}
use native.Mathlib.Omega.{arith}
use Rattle.planning.proofs.least_of.Goals as goal

pub returns-in-None : goal.returns-in-None
returns-in-None c = λ P t. c.in-None.ensures.held P t _ (omega arith)

pub first_at-requires : goal.first_at-requires
first_at-requires c = let d = c.in-Some.ensures in (served_to d.kept c.requires d.held.1, some_to d.kept d.held.0.some)

pub returns-in-Some : goal.returns-in-Some
returns-in-Some c = let d = c.in-Some.ensures in λ P t. least_found (held_to d.kept d.held.0) d.held.1 c.first_at.ensures P (d.kept.to P t)
