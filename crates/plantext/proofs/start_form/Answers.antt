use mathlib.Core.Path.{ap, ◌∙◌}
use Rattle.lines.specs.Letters.{letters}
use Rattle.rules.specs.Table.{between}
use Rattle.plantext.specs.Form.{word_stands, start_form}
use Rattle.plantext.proofs.Laws.{and_fails, and_then}
use Rattle.plantext.proofs.start_form.Goals as goal

pub returns-then-not-number_at : goal.returns-then-not-number_at
unfolding start_form
returns-then-not-number_at c = and_fails _ c.number_at.ensures c.if-not-number_at.true-raw

pub returns-then-not-word_at : goal.returns-then-not-word_at
unfolding start_form
returns-then-not-word_at c = let t = c.args.text.now in and_then c.number_at.ensures c.if-not-number_at.false-raw (and_fails _ (c.word_at.ensures ∙ ap (word_stands (letters ": (") t) c.number_end.ensures.says) c.if-not-word_at.true-raw)

pub returns : goal.returns
unfolding start_form
returns c = let t = c.args.text.now in and_then c.number_at.ensures c.if-not-number_at.false-raw (and_then (c.word_at.ensures ∙ ap (word_stands (letters ": (") t) c.number_end.ensures.says) c.if-not-word_at.false-raw (c.from_to.ensures ∙ ap (between 1 16) c.name_length.ensures.0))
