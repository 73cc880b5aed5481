use Rattle.std.proofs.Common.{rules}
use Rattle.groups.proofs.consumer.Goals as goal

pub loop-p-preserved : goal.loop-p-preserved
loop-p-preserved c P e all = c.noted-x.ensures P c.args.s.now (c.condition.ensures (search rules) P e) (c.loop-p.invariant P e all)
