-- `tenths::in_range` meets its contract: the two comparisons are the range (`range-is`). Assumes nothing.
use mathlib.Core.Path.{◌≡◌, sym, ap, ◌∙◌, subst}
use mathlib.Core.Bool.{Bool, ◌&&◌}
use lib.Dec.{T}
use lib.Ieee.{of_bits, neg, le}
use Rattle.tenths.specs.Tenths.{in_range}
use Rattle.tenths.proofs.Range.{hundred, minus_hundred, range_is}
use Rattle.tenths.proofs.in_range.Goals.{Start}
use Rattle.tenths.proofs.in_range.Goals as goal

-- with the outcome b of the first comparison
tested : (c : Start) {b : Bool} → le minus_hundred c.args.x ≡ b → (b && le c.args.x hundred) ≡ in_range c.args.x
tested c e = ap (λ (b : Bool). b && le c.args.x hundred) (sym e) ∙ range_is c.args.x (subst T (sym c.well_formed.0.1) tt)

pub returns-then-x : goal.returns-then-x
unfolding of_bits neg
returns-then-x c = tested c.before c.if-x.true

pub returns-else-x : goal.returns-else-x
unfolding of_bits neg
returns-else-x c = c.if-x.false ∙ tested c.before c.if-x.false
