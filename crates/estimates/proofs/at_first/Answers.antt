use Rattle.std.proofs.Common.{rules}
use Rattle.estimates.proofs.Walked.{first_yes, first_no}
use Rattle.estimates.proofs.at_first.Goals as goal

pub returns-then-covers : goal.returns-then-covers
returns-then-covers c = let a = c.args in first_yes a.conditions a.opening a.release (search rules)

pub returns-else-covers : goal.returns-else-covers
returns-else-covers c = let a = c.args in first_no a.conditions a.opening a.release c.ranges.conditions.fits (search rules)
