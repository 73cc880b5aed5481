use mathlib.Core.Path.{refl}
use Rattle.facts.specs.Facts.{has}
use Rattle.jobs.proofs.has.Goals as goal

pub returns : goal.returns
unfolding has
returns c = refl
