use mathlib.Core.Path.{sym, ◌∙◌}
use native.Mathlib.Omega.{arith}
use lib.ListN.{get_or}
use Rattle.facts.specs.Facts.{has}
use Rattle.facts.proofs.Least.{first_some, first_none}
use Rattle.bindings.proofs.Bytes.{pick_start, pick_job, pick_none}
use Rattle.bindings.specs.Steps.{row_byte}
use Rattle.bindings.proofs.support_byte.Goals as goal

pub returns-then-has : goal.returns-then-has
unfolding row_byte
returns-then-has c = pick_start _ _ (sym c.has.ensures ∙ c.if-has.true)

pub overflow_cast-result : goal.overflow_cast-result
overflow_cast-result c = record { fits = omega (arith, c.requires.0, (first_some (λ a. has (get_or c.args.row.by a 0) c.args.p) c.args.n c.first_giver.ensures c.in-Some.is).1) }

pub returns-in-Some : goal.returns-in-Some
unfolding row_byte
returns-in-Some c =
    let f = first_some (λ a. has (get_or c.args.row.by a 0) c.args.p) c.args.n c.first_giver.ensures c.in-Some.is in
    pick_job _ _ _ (sym c.has.ensures ∙ c.if-has.false) f.0 f.1

pub returns-in-None : goal.returns-in-None
unfolding row_byte
returns-in-None c =
    pick_none _ _ _ (sym c.has.ensures ∙ c.if-has.false) (first_none (λ a. has (get_or c.args.row.by a 0) c.args.p) c.args.n c.first_giver.ensures c.in-None.is) (omega arith)
