use Rattle.tables.proofs.Laws.{below_one, above}
use Rattle.tables.proofs.outside.Goals as goal

pub returns-then-n-lt1 : goal.returns-then-n-lt1
returns-then-n-lt1 c = below_one c.args.most c.args.n c.if-n-lt1.true

pub returns : goal.returns
returns c = above c.args.most c.args.n c.if-n-lt1.false
