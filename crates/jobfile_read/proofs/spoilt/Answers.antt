use mathlib.Core.Path.{ap, ◌∙◌}
use mathlib.Core.Bool.{not}
use Prim.Native.Nat.{ℕ}
use lib.Dec.{eqb}
use Rattle.jobfile.specs.Format.{spoilt}
use Rattle.jobfile.proofs.Checks.{any_test}
use Rattle.jobfile_read.proofs.spoilt.Goals as goal

pub returns : goal.returns
unfolding spoilt
returns c = ap (λ (n : ℕ). not (eqb n 0)) c.number.ensures.says ∙ any_test 4 _ _
