use Rattle.std.proofs.Common.{rules}
use Rattle.reach.proofs.Words.{ejob_fit}
use Rattle.reach.proofs.e_job.Goals as goal

pub returns : goal.returns
returns c = ejob_fit _ c.args.a _ _ _ _ _ (search rules) c.barred.ensures c.less-needing.ensures c.barred-adding.ensures c.union.ensures c.union-2.ensures
