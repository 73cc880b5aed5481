use mathlib.Core.Path.{ap}
use mathlib.Core.Bool.{not}
use Prim.Native.Nat.{ℕ}
use lib.Dec.{ltb}
use Rattle.facts.proofs.Bools.{or_first, or_next}
use Rattle.plantext_read.proofs.formless.Goals as goal

pub returns-then-not-formed : goal.returns-then-not-formed
returns-then-not-formed c = or_first _ (ap not c.in_form-formed.ensures) c.if-not-formed.true-raw

pub returns-else-not-formed : goal.returns-else-not-formed
returns-else-not-formed c = or_next (ap not c.in_form-formed.ensures) c.if-not-formed.false-raw (ap (λ (n : ℕ). ltb 2880 n) c.value_at.ensures)
