use Rattle.named.proofs.Blocks.{start_of}
use Rattle.named.proofs.start_fits.Goals as goal

pub returns : goal.returns
returns c = start_of c.args.l c.args.q c.args.s.now c.args.c _ _ c.blocked.ensures c.less.ensures
