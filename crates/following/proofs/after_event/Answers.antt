use mathlib.Core.Path.{ap, ◌∙◌}
use mathlib.Core.Bool.{Bool, not, ◌&&◌}
use Rattle.facts.specs.Facts.{has}
use Rattle.following.proofs.after_event.Goals as goal

pub returns : goal.returns
returns c = record {
  says = c.done.ensures;
  noted = rw (← c.from-job.ensures) (c.with_if-started.ensures, c.with_if-finished.ensures);
  facts = c.facts_now-facts.ensures;
  free = λ j. c.less.ensures j ∙ ap (λ (x : Bool). x && not (has c.with_if-started.result j)) (c.free_jobs-free.ensures j);
}
