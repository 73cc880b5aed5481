use mathlib.Core.Path.{◌∙◌}
use Rattle.std.proofs.lemmas.Grind.{common_steps}
use native.Mathlib.Omega.{arith}
use Rattle.jobfile_tidy.proofs.Forwards.{front_forwards}
use Rattle.jobfile_tidy.proofs.pull.Goals as goal

pub returns-clause-copied : goal.returns-clause-copied
returns-clause-copied c =
    let a = c.args in grind (arith, common_steps) ∙ front_forwards a.n a.used a.buf.now c.requires.0 c.requires.1
