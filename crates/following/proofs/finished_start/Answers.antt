use mathlib.Core.Path.{sym}
use Rattle.facts.specs.Facts.{has}
use Rattle.facts.proofs.Bools.{chosen, unchosen, test_yes, test_no}
use Rattle.rules.specs.InStep.{finished_of}
use Rattle.following.proofs.finished_start.Goals as goal

pub returns-then-has : goal.returns-then-has
unfolding finished_of
returns-then-has c = λ _. sym (chosen (has c.args.finished c.args.j) _ _ (test_yes c.has.ensures c.if-has.true))

pub returns-else-has : goal.returns-else-has
unfolding finished_of
returns-else-has c = λ _. sym (unchosen (has c.args.finished c.args.j) _ _ (test_no c.has.ensures c.if-has.false))
