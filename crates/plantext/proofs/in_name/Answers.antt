use Rattle.facts.proofs.Bools.{or_first, or_next}
use Rattle.rules.specs.Table.{between}
use Rattle.plantext.specs.Form.{in_name}
use mathlib.Core.Path.{refl}
use Rattle.plantext.proofs.in_name.Goals as goal

pub returns-then-is_ascii_lowercase : goal.returns-then-is_ascii_lowercase
unfolding in_name between
returns-then-is_ascii_lowercase c = or_first _ c.is_ascii_lowercase.ensures.value c.if-is_ascii_lowercase.true

pub returns-then-is_digit : goal.returns-then-is_digit
unfolding in_name between
returns-then-is_digit c = or_next c.is_ascii_lowercase.ensures.value c.if-is_ascii_lowercase.false (or_first _ c.is_digit.ensures c.if-is_digit.true)

pub returns-else-is_digit : goal.returns-else-is_digit
unfolding in_name between
returns-else-is_digit c = or_next c.is_ascii_lowercase.ensures.value c.if-is_ascii_lowercase.false (or_next c.is_digit.ensures c.if-is_digit.false refl)
