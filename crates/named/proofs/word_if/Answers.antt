use mathlib.Core.Path.{◌∙◌, sym}
use mathlib.Core.Bool.{and-true, and-false}
use Rattle.facts.specs.Facts.{has}
use Rattle.named.proofs.Tests.{no_fact}
use Rattle.named.proofs.word_if.Goals.{else-first-via-then-first+else-second, else-first-via-else-first}
use Rattle.named.proofs.word_if.Goals as goal

pub returns-then-second : goal.returns-then-second
returns-then-second c = rw (c.if-first.true, c.if-second.true) (λ p. sym (and-true _))

pub returns-else-first : goal.returns-else-first
returns-else-first c = elim c.else-first.branch [
  | else-first-via-then-first+else-second w ↦ rw (w.if-first.true, w.if-second.false) (λ p. no_fact p ∙ sym (and-false (has c.args.w p)))
  | else-first-via-else-first w ↦ rw w.if-first.false (λ p. no_fact p ∙ sym (and-false (has c.args.w p)))
]
