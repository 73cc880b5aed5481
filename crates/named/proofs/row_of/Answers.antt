use Rattle.rules.specs.Plans.{starts}
use Rattle.tables.specs.Tables.{problem}
use Rattle.named.proofs.Rows.{row_same}
use Rattle.named.proofs.row_of.Goals as goal

pub returns : goal.returns
returns c = row_same (problem c.args.l c.args.q) (starts c.args.s.now) _ _ _ _ _ c.holder_of.ensures c.wanted.ensures c.named_row.ensures
