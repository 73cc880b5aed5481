use mathlib.Core.Path.{ap, ◌∙◌}
use Rattle.lines.specs.Letters.{letters}
use Rattle.plantext.specs.Form.{word_stands, number_at, number_end, duration_form}
use Rattle.plantext.proofs.Laws.{and_fails, and_then}
use Rattle.plantext.proofs.duration_form.Goals as goal

pub returns-then-not-word_at : goal.returns-then-not-word_at
unfolding duration_form
returns-then-not-word_at c = let t = c.args.text.now in and_fails _ (c.word_at.ensures ∙ ap (word_stands (letters ") [") t) c.name_end.ensures.0) c.if-not-word_at.true-raw

pub returns-then-not-number_at : goal.returns-then-not-number_at
unfolding duration_form
returns-then-not-number_at c = let t = c.args.text.now in and_then (c.word_at.ensures ∙ ap (word_stands (letters ") [") t) c.name_end.ensures.0) c.if-not-word_at.false-raw (and_fails _ (c.number_at.ensures ∙ ap (number_at t) c.duration_at-duration.ensures.0) c.if-not-number_at.true-raw)

pub returns : goal.returns
unfolding duration_form
returns c = let t = c.args.text.now in and_then (c.word_at.ensures ∙ ap (word_stands (letters ") [") t) c.name_end.ensures.0) c.if-not-word_at.false-raw (and_then (c.number_at.ensures ∙ ap (number_at t) c.duration_at-duration.ensures.0) c.if-not-number_at.false-raw (c.word_at-2.ensures ∙ ap (word_stands (letters "]\n") t) (c.number_end.ensures.says ∙ ap (number_end t) c.duration_at-duration.ensures.0)))
