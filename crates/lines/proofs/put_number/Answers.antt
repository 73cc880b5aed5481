use Rattle.lines.specs.Lines.{decimal}
use Rattle.lines.proofs.Laws.{lays_then}
use borrow.Author.Rules.{rules}
use Rattle.lines.proofs.put_number.Goals as goal

pub returns : goal.returns
unfolding decimal
returns c = lays_then (search rules) c.put_digit-tens.ensures (lays_then (search rules) c.put_digit-thousands.ensures (lays_then (search rules) c.put_digit-hundreds.ensures (lays_then (search rules) c.put_digit-last.ensures c.put_letter.ensures)))
